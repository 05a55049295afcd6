-- Where the acts of a run were made.
use Rattle.std.specs.Prelude.{◌≡◌, ℕ, ◌-◌, ◌^◌, min, Bool, true, false, List, [], ◌∷◌, IsSomeAnd, length, slice_get}
use Rattle.rank_language.specs.Program.{ProgramValue}
use Rattle.rank_machine.specs.declared.want.Want.{Want}
use Rattle.rank_machine.specs.declared.want.Want.TheVariants as want
use Rattle.rank_machine.specs.Machine.{MachineValue, machine_want}
use Rattle.crash_free.specs.Runs.{Passed, history}
use Rattle.crash_free.specs.Sim.{SimValue, choice_of, Allows, AreBegun}
use Rattle.crash_free.specs.Inside.{GoesInside}
use Rattle.run_shown.specs.declared.trace.place.Place.{Place}

-- a probe that doesn't wait is wanted
abbrev pub is_try : Want → Bool
is_try want.Internal = false
is_try (want.Send dest context tag) = false
is_try (want.Receive selector) = false
is_try (want.Probe selector) = false
is_try (want.TryProbe selector) = true
is_try (want.Print value) = false
is_try want.Halted = false
is_try (want.Faulted fault) = false

-- the greatest clock that is reported; a rank's later acts have it too
abbrev pub greatest_told : ℕ
greatest_told = 2 ^ 32 - 1

-- the clock of a rank's newest act: how many acts of the rank a run has
abbrev pub clock_of : List Passed → ℕ → ℕ
clock_of run r = min (length (history run r)) greatest_told

-- a machine stands at the statement of this position, which is a probe that doesn't wait or isn't,
-- as is said
pub record StandsAt (m : MachineValue) (place : Place) : Type 0 where
  pub position : m.position ≡ place.position
  pub tries : is_try (machine_want m) ≡ place.tries

-- By steps of its own the rank came to the statement of this position. There the act's choice was
-- allowed, the act was made and no other, and by its clock it was the rank's next.
pub record IsMadeAt (s : SimValue) (passed : Passed) (place : Place) (s' : SimValue) : Type 0 where
  pub steps : ℕ
  pub there : SimValue
  pub inside : GoesInside s passed.rank steps there
  pub stands : IsSomeAnd (slice_get there.machines passed.rank) (λ m. StandsAt m place)
  pub allowed : Allows there passed.rank (choice_of passed.act) s'
  pub made : s'.run ≡ passed ∷ s.run
  pub clock : place.clock ≡ clock_of s'.run passed.rank

-- the acts were made one after another, each at its place, and there are no more places
abbrev pub ArePlaces : SimValue → List Passed → List Place → SimValue → Type 0
ArePlaces s [] [] s' = s ≡ s'
ArePlaces s [] (place ∷ places) s' = ⊥
ArePlaces s (passed ∷ acts) [] s' = ⊥
ArePlaces s (passed ∷ acts) (place ∷ places) s' = (mid : SimValue) × IsMadeAt s passed place mid × ArePlaces mid acts places s'

-- From the beginning of the program, where no act is made, the acts were made one after another,
-- each at its place.
pub record AreFound (program : ProgramValue) (ranks : ℕ) (acts : List Passed) (places : List Place) : Type 0 where
  pub first : SimValue
  pub program_same : first.program ≡ program
  pub as_many : length first.machines ≡ ranks
  pub begun : AreBegun program ranks first.machines
  pub no_act : first.run ≡ []
  pub last : SimValue
  pub made : ArePlaces first acts places last
