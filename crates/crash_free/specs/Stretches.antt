-- Stretches: copies of the machines of a simulation, which make steps of their own apart from it.
use Rattle.std.specs.Prelude.{◌≡◌, ◌≢◌, ◌⊎◌, ℕ, ◌<◌, List, Some, length, slice_get, slice_set, slice_index_or}
use Rattle.rank_machine.specs.declared.want.Want.TheVariants as want
use Rattle.rank_machine.specs.Wants.{wants}
use Rattle.rank_machine.specs.Machine.{MachineValue, state_of, machine_want, KeepsRank}
use Rattle.crash_free.specs.declared.sim.stretches.Stretch.{Stretch}
use Rattle.crash_free.specs.Sim.{SimValue}
use Rattle.crash_free.specs.SideBySide.{MakesSteps}

-- What a stretch becomes: its machine made steps, and if some are left it asks for something else.
pub record GoesAhead (x y : Stretch) : Type 0 where
  pub makes : MakesSteps x.left y.left x.machine y.machine
  pub stays : KeepsRank x.machine y.machine
  pub stops : 0 < y.left → machine_want y.machine ≢ want.Internal
  pub from_state : (machine_want y.machine ≡ want.Internal) ⊎ (machine_want y.machine ≡ wants (state_of y.machine))

-- what stretches become
abbrev pub GoAhead : List Stretch → List Stretch → Type 0
GoAhead xs ys = (i : ℕ) (d : Stretch) → i < length xs → GoesAhead (slice_index_or xs i d) (slice_index_or ys i d)

-- this stretch begins where the machine of this rank stands, which has so many steps left
pub record IsBefore (machines : List MachineValue) (left : List ℕ) (r : ℕ) (x : Stretch) : Type 0 where
  pub stands : slice_get machines r ≡ Some x.machine
  pub has : slice_get left r ≡ Some x.left

-- so do these, those of the first ranks
abbrev pub AreBefore : List MachineValue → List ℕ → List Stretch → Type 0
AreBefore machines left xs = (r : ℕ) (x : Stretch) → slice_get xs r ≡ Some x → IsBefore machines left r x

-- stretches that began there have become these
abbrev pub GoFrom : List MachineValue → List ℕ → List Stretch → Type 0
GoFrom machines left ys = (r : ℕ) (y : Stretch) → slice_get ys r ≡ Some y → (x : Stretch) × IsBefore machines left r x × GoesAhead x y

-- the simulation with another machine of one rank
abbrev pub with_machine : SimValue → ℕ → MachineValue → SimValue
with_machine s r m = record { program = s.program; machines = slice_set s.machines r m; run = s.run }
