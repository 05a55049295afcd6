-- Ranks that can't go on.
use Rattle.std.specs.Prelude.{ℕ, ℤ, ◌≡◌, ◌≢◌, ◌<◌, List, Some, length, map, slice_get}
use Rattle.matching.specs.declared.selector.Selector.{Selector}
use Rattle.rank_machine.specs.declared.want.Want.{Want}
use Rattle.rank_machine.specs.declared.want.Want.TheVariants as want
use Rattle.rank_machine.specs.Machine.{MachineValue}
use Rattle.crash_free.specs.Runs.{history, printed, IsEligible}
use Rattle.crash_free.specs.Sim.{SimValue, inbound_of}
use Rattle.crash_free.specs.Wanted.{Wants, WantsAt}
use Rattle.audit.specs.declared.outcome.End.{End}
use Rattle.audit.specs.declared.outcome.End.TheVariants as end
use Rattle.audit.specs.FinalRuns.Maximal.{RankOutcome, end_of}

-- no message of any rank is eligible for rank r
abbrev pub NoneIsEligible : SimValue → ℕ → Selector → Type 0
NoneIsEligible s r w = (source place : ℕ) → source < length s.machines → IsEligible (inbound_of s.run r) (history s.run r) source place w → ⊥

-- a rank that asks for this has ended, or awaits a message that isn't there
abbrev pub HasNothing : SimValue → ℕ → Want → Type 0
HasNothing s r want.Halted = Unit {0}
HasNothing s r (want.Faulted fault) = Unit {0}
HasNothing s r (want.Receive selector) = NoneIsEligible s r selector
HasNothing s r (want.Probe selector) = NoneIsEligible s r selector
HasNothing s r want.Internal = ⊥
HasNothing s r (want.Send dest context tag) = ⊥
HasNothing s r (want.TryProbe selector) = ⊥
HasNothing s r (want.Print value) = ⊥

-- so does rank r
pub record StandsStill (s : SimValue) (r : ℕ) : Type 0 where
  pub machine : MachineValue
  pub want : Want
  pub there : slice_get s.machines r ≡ Some machine
  pub asks : Wants machine want
  pub nothing : HasNothing s r want

-- what is seen of rank r, which wants this last
pub record EndsAt (s : SimValue) (r : ℕ) (x : RankOutcome) : Type 0 where
  pub lines : x.lines ≡ map (λ (line : ℕ × ℤ). line.1) (printed s.run r)
  pub want : Want
  pub asks : WantsAt s.machines r want
  pub ended : end_of want ≡ Some x.end

-- a message is eligible for rank r that this selector names, of a rank that isn't unfinished
pub record OneIsThere (s : SimValue) (ends : List End) (r : ℕ) (w : Selector) : Type 0 where
  pub source : ℕ
  pub place : ℕ
  pub known : slice_get ends source ≢ Some end.Unfinished
  pub eligible : IsEligible (inbound_of s.run r) (history s.run r) source place w

-- none is of the ranks below this number
abbrev pub NoneIsThere : SimValue → List End → ℕ → Selector → ℕ → Type 0
NoneIsThere s ends r w below =
    (source place : ℕ) → source < below → slice_get ends source ≢ Some end.Unfinished
    → IsEligible (inbound_of s.run r) (history s.run r) source place w → ⊥
