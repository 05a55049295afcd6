-- What rank r may take or hit of a source: where that stays as it is of each source, however the
-- other ranks go on, its choices are persistent. For receives of any source this is the condition
-- of Siegel 2005, and of Vakkalanka, Gopalakrishnan and Kirby 2008, asked of each source by itself.
use Rattle.std.specs.Prelude.{◌≡◌, ℕ, List, Option, Some, length, slice_get}
use Rattle.matching.specs.declared.packet.Context.{Context}
use Rattle.matching.specs.declared.selector.Selector.{Selector}
use Rattle.rank_machine.specs.Acts.{Message, IsNamed}
use Rattle.rank_machine.specs.Machine.{MachineValue}
use Rattle.crash_free.specs.Runs.{Passed, at_place, history, sent, IsEligible}
use Rattle.crash_free.specs.Sim.{SimValue, inbound_of, start_of}
use Rattle.explore.specs.Persistent.{GoesOnWithout}
use Rattle.explore.specs.declared.send_mode.SendMode.TheVariants.{Buffered}

-- each machine is one of the program of the simulation
abbrev pub AreOfProgram : SimValue → Type 0
AreOfProgram s = (r : ℕ) (m : MachineValue) → slice_get s.machines r ≡ Some m → m.program ≡ s.program

-- the ranks other than r go on from the run of the simulation to this one
abbrev pub OthersGoOn : SimValue → ℕ → List Passed → Type 0
OthersGoOn s r C = GoesOnWithout Buffered (start_of s.program (length s.machines)) (length s.machines) r s.run C

-- however they do, what of this source is eligible for rank r then is so now
abbrev pub IsSettled : SimValue → ℕ → Selector → ℕ → Type 0
IsSettled s r w source =
    (C : List Passed) (place : ℕ) → OthersGoOn s r C → IsEligible (inbound_of C r) (history C r) source place w
    → IsEligible (inbound_of s.run r) (history s.run r) source place w

-- however they do, each message of this context, with this tag or any, that rank q has sent this
-- rank then stands in its place now
abbrev pub HasSentAll : SimValue → ℕ → Context → Option ℕ → ℕ → Type 0
HasSentAll s r context tag q =
    (C : List Passed) (place : ℕ) (m : Message) → OthersGoOn s r C → (m.context ≡ context) × IsNamed tag m.tag
    → at_place (sent C q r) place ≡ Some m → at_place (sent s.run q r) place ≡ Some m
