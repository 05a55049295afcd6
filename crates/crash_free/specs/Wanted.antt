-- What the machines of a run ask for.
use Rattle.std.specs.Prelude.{◌≡◌, ◌≢◌, ◌⊎◌, ℕ, List, IsSomeAnd, slice_get}
use Rattle.matching.specs.declared.selector.Selector.{Selector}
use Rattle.rank_machine.specs.declared.want.Want.{Want}
use Rattle.rank_machine.specs.declared.want.Want.TheVariants as want
use Rattle.rank_machine.specs.Wants.{wants}
use Rattle.rank_machine.specs.Machine.{MachineValue, state_of, machine_want}

-- a machine asks for this, which is to go on or what its state wants
pub record Wants (m : MachineValue) (w : Want) : Type 0 where
  pub at_want : machine_want m ≡ w
  pub from_state : (machine_want m ≡ want.Internal) ⊎ (machine_want m ≡ wants (state_of m))

-- the machine of a rank asks for this
abbrev pub WantsAt : List MachineValue → ℕ → Want → Type 0
WantsAt machines r w = IsSomeAnd (slice_get machines r) (λ m. Wants m w)

-- the machine of a rank asks for a probe of this selector, one that waits or one that doesn't
abbrev pub ProbesAt : List MachineValue → ℕ → Selector → Type 0
ProbesAt machines r w = WantsAt machines r (want.Probe w) ⊎ WantsAt machines r (want.TryProbe w)

-- the machine of a rank asks for a probe that doesn't wait
abbrev pub TriesAt : List MachineValue → ℕ → Type 0
TriesAt machines r = (w : Selector) × WantsAt machines r (want.TryProbe w)

-- the machine of a rank asks for something else than a step of its own: for an act, or for nothing
-- more
abbrev pub StandsAtAct : List MachineValue → ℕ → Type 0
StandsAtAct machines r = (w : Want) × WantsAt machines r w × (w ≢ want.Internal)
