-- Points of a run to which a simulation can go back (checkpoints of a search that undoes what it did: VeriSoft makes runs
-- again from the beginning, Godefroid 1997).
use Rattle.std.specs.Prelude.{◌≡◌, ℕ, ℤ, ◌-◌, ◌≤◌, ◌++◌, Bool, true, List, [], ◌∷◌, Option, Some, None, length, drop, slice_get}
use Rattle.rank_language.specs.Program.{ProgramValue}
use Rattle.rank_machine.specs.Machine.{MachineValue}
use Rattle.crash_free.specs.Runs.{Passed}
use Rattle.crash_free.specs.Sim.{SimValue}
use Rattle.crash_free.specs.Slots.{Slot, IsKept}
use Rattle.crash_free.specs.Lines.{AreLines}

-- what a point keeps: the machines, what is left in each channel, the lines, and how many acts were made before it
pub record PointValue : Type 0 where
  pub machines : List MachineValue
  pub channels : List (List Slot)
  pub lines : List (List ℤ)
  pub made : ℕ

-- the first acts of a run, so many, the newest of them first
abbrev pub first_acts : ℕ → List Passed → List Passed
first_acts k C = drop (length C - k) C

-- the second run goes on behind the first
abbrev pub GoesBehind : List Passed → List Passed → Type 0
GoesBehind C C' = (later : List Passed) × (C' ≡ later ++ C)

-- the simulation that stood at a point of this run
abbrev pub stood : ProgramValue → List Passed → PointValue → SimValue
stood program C p = record { program = program; machines = p.machines; run = first_acts p.made C }

-- The point is one of this run of the program on n ranks: what it keeps is what a simulation keeps after the run's first acts.
pub record IsPointOf (program : ProgramValue) (n : ℕ) (C : List Passed) (p : PointValue) : Type 0 where
  pub within : p.made ≤ length C
  pub ranks : length p.machines ≡ n
  pub kept : IsKept program p.machines p.channels (first_acts p.made C)
  pub lines : AreLines p.lines (first_acts p.made C)

-- the machine of each rank with a mark is the one of its rank in the second list
abbrev pub AreUnmoved : List MachineValue → List MachineValue → List Bool → Type 0
AreUnmoved machines others marks = (r : ℕ) → slice_get marks r ≡ Some true → slice_get machines r ≡ slice_get others r

-- the machines, with another in the place of each for which there is one
abbrev pub replaced : List MachineValue → List (Option MachineValue) → List MachineValue
replaced [] others = []
replaced (m ∷ machines) [] = m ∷ machines
replaced (m ∷ machines) (None ∷ others) = m ∷ replaced machines others
replaced (m ∷ machines) (Some other ∷ others) = other ∷ replaced machines others
