-- Steps of their own that the ranks of a simulation make side by side: no rank sees another's, and
-- the run stays as it is.
use Rattle.std.specs.Prelude.{◌≡◌, ℕ, ◌+◌, ◌<◌, List, Some, length, slice_get, IsSomeAnd}
use Rattle.rank_machine.specs.Machine.{MachineValue, Strides}
use Rattle.crash_free.specs.Sim.{SimValue}
use Rattle.crash_free.specs.Wanted.{StandsAtAct}

-- A machine that may make k steps of its own makes some, each of which it asked for, and has j left.
pub record MakesSteps (k j : ℕ) (m m' : MachineValue) : Type 0 where
  pub made : ℕ
  pub sum : made + j ≡ k
  pub strides : Strides made m m'

-- Each rank's machine goes on by the steps that the rank has fewer afterwards; all else stays.
pub record GoSideBySide (s : SimValue) (left left' : List ℕ) (s' : SimValue) : Type 0 where
  pub program : s'.program ≡ s.program
  pub run : s'.run ≡ s.run
  pub ranks : length s'.machines ≡ length s.machines
  pub width : length left' ≡ length left
  pub each : (r k j : ℕ) → slice_get left r ≡ Some k → slice_get left' r ≡ Some j
      → IsSomeAnd (slice_get s.machines r) (λ m. IsSomeAnd (slice_get s'.machines r) (MakesSteps k j m))

-- each rank that has steps left stands at an act, or at its end
abbrev pub StopAtActs : List ℕ → SimValue → Type 0
StopAtActs left s = (r j : ℕ) → slice_get left r ≡ Some j → 0 < j → StandsAtAct s.machines r
