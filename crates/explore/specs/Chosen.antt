-- The choices of a run, as a search notes them: which of several acts was made, and at which
-- statement of the program (the choice among senders is free: MPI 1.1, section 3.5; a run is given
-- by what was chosen in it, and made again by that: VeriSoft, Godefroid 1997).
use Rattle.std.specs.Prelude.{◌≡◌, ℕ, Bool, true, false, List, [], ◌∷◌, ◌++◌, IsSomeAnd, length, slice_get}
use Rattle.rank_language.specs.Program.{ProgramValue}
use Rattle.rank_machine.specs.declared.want.Want.{Want}
use Rattle.rank_machine.specs.declared.want.Want.TheVariants as want
use Rattle.rank_machine.specs.Wants.{payload}
use Rattle.rank_machine.specs.Acts.{Act, Fits}
use Rattle.rank_machine.specs.Machine.{MachineValue, state_of, machine_want}
use Rattle.crash_free.specs.Runs.{Passed, history, looked_up}
use Rattle.crash_free.specs.Sim.{inbound_of}
use Rattle.explore.specs.declared.moves.Move.{Move}
use Rattle.explore.specs.declared.moves.Noted.{Noted}
use Rattle.explore.specs.declared.path.Path.{Path}
use Rattle.explore.specs.Exploring.{and_then}
use Rattle.explore.specs.Counting.{HasMade}
use Rattle.explore.specs.Counts.{Counts}
use Rattle.explore.specs.Stems.{StandsFor}
use Rattle.explore.specs.declared.send_mode.SendMode.{SendMode}

-- a probe is wanted, one that waits or one that doesn't
abbrev pub is_probe : Want → Bool
is_probe (want.Probe selector) = true
is_probe (want.TryProbe selector) = true
is_probe (want.Receive selector) = false
is_probe (want.Send dest context tag) = false
is_probe (want.Print value) = false
is_probe want.Internal = false
is_probe want.Halted = false
is_probe (want.Faulted fault) = false

-- the note says where this machine stands, and whether it asks for a probe
abbrev pub IsNotedOf : Noted → MachineValue → Type 0
IsNotedOf c m = (c.position ≡ m.position) × (c.probes ≡ is_probe (machine_want m))

-- After this run the noted choice stands for this act, which its rank may make then. The machine
-- that asks for the act is the one that the rank's history leads to, and stands where the note says.
pub record IsChoice (mode : SendMode) (program : ProgramValue) (n : ℕ) (P : List Passed) (c : Noted) (act : Act) : Type 0 where
  pub stands_for : StandsFor mode program n P c.chosen act
  pub machine : MachineValue
  pub steps : ℕ
  pub made : HasMade program n c.chosen.rank (history P c.chosen.rank) steps machine
  pub asks : Fits (machine_want machine) (payload (state_of machine)) act (looked_up (inbound_of P c.chosen.rank) act)
  pub noted : IsNotedOf c machine

-- In this run these choices were made, one after another. Each is of one of its acts, and there may
-- be acts between them.
pub data MakesChoices (mode : SendMode) (program : ProgramValue) (n : ℕ) : List Passed → List Noted → Type 0 where
  begins : MakesChoices mode program n [] []
  passes : {P : List Passed} {choices : List Noted} (r : ℕ) (act : Act) → MakesChoices mode program n P choices
      → MakesChoices mode program n (and_then P r act) choices
  chooses : {P : List Passed} {choices : List Noted} (c : Noted) (act : Act) → MakesChoices mode program n P choices → IsChoice mode program n P c act
      → MakesChoices mode program n (and_then P c.chosen.rank act) (choices ++ c ∷ [])

-- the note is of this move, and of the machine of its rank
abbrev pub IsNoteAt : List MachineValue → Move → Noted → Type 0
IsNoteAt machines m c = (c.chosen ≡ m) × IsSomeAnd (slice_get machines m.rank) (λ machine. IsNotedOf c machine)

-- in the run of the path its choices were made
abbrev pub HasChoices : SendMode → Path → Type 0
HasChoices mode p = MakesChoices mode p.sim.program (length p.sim.machines) p.sim.run p.choices.items

-- they were after, if they were before and the steps of each rank are counted
abbrev pub KeepsChoices : SendMode → Path → Path → Type 0
KeepsChoices mode p p' = (steps : ℕ) → Counts steps p.sim p.left → HasChoices mode p → HasChoices mode p'
