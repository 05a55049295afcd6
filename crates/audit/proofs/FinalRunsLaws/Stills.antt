-- A rank that stands still makes no act, and its outcome is what it printed and asked for last.
use Rattle.std.proofs.Common.{◌≡◌, ℕ, ◌<◌, Some, length, slice_get, ◌+◌, ◌⊎◌, inl, inr, sym, ap, subst, ◌∙◌, arith}
use Rattle.std.proofs.lemmas.Bool.{cases_eq}
use Rattle.matching.specs.declared.selector.Selector.{Selector}
use Rattle.rank_machine.specs.declared.want.Want.{Want}
use Rattle.rank_machine.specs.declared.want.Want.TheVariants as want
use Rattle.rank_machine.specs.Acts.{Act}
use Rattle.rank_machine.specs.Machine.{MachineValue, machine_want}
use Rattle.crash_free.specs.Runs.{history, IsEligible}
use Rattle.crash_free.specs.Sim.{SimValue, Simulates, start_of, inbound_of}
use Rattle.crash_free.specs.Wanted.{Wants, WantsAt}
use Rattle.audit.specs.FinalRuns.Maximal.{MayFollow, RankOutcome, IsRankOutcome, end_of}
use Rattle.audit.specs.FinalRuns.Stills.{HasNothing, StandsStill, EndsAt}
use Rattle.audit.proofs.Reaching.{some_there}
use Rattle.audit.proofs.FinalRunsLaws.Simulating.{takes_eligible, hits_eligible, none_of_halted, none_of_faulted, outcome_there}

-- who has nothing makes no act
pub no_act : (s : SimValue) (r : ℕ) (m : MachineValue) (w : Want) (act : Act) → Simulates s → slice_get s.machines r ≡ Some m → Wants m w → HasNothing s r w
    → MayFollow (start_of s.program (length s.machines)) (length s.machines) s.run r act → ⊥
no_act s r m want.Halted act stands there asks none may = none_of_halted s r m act stands there asks may
no_act s r m (want.Faulted k) act stands there asks none may = none_of_faulted s r m k act stands there asks may
no_act s r m (want.Receive w) act stands there asks none may =
    let e = takes_eligible s r m w act stands there may asks in
    none e.source e.place e.low e.eligible
no_act s r m (want.Probe w) act stands there asks none may =
    let e = hits_eligible s r m w act stands there may asks in
    none e.source e.place e.low e.eligible
no_act s r m want.Internal act stands there asks none may = none
no_act s r m (want.Send d c t) act stands there asks none may = none
no_act s r m (want.TryProbe w) act stands there asks none may = none
no_act s r m (want.Print v) act stands there asks none may = none

-- who has nothing has not to make a step of its own first
no_own : (s : SimValue) (r : ℕ) (w : Want) → HasNothing s r w → w ≡ want.Internal → ⊥
no_own s r w none e = (let z : HasNothing s r want.Internal = subst (HasNothing s r) e none in z)

-- who asks for this and has nothing stands still
pub stands_so : (s : SimValue) (r : ℕ) (w : Want) → WantsAt s.machines r w → HasNothing s r w → StandsStill s r
stands_so s r w wanted none =
    let m = some_there (slice_get s.machines r) (λ m. Wants m w) wanted in
    record { machine = m.0; want = w; there = m.1; asks = m.2; nothing = none }

-- where of the sources before one none has a message that is eligible, and it has none, none up to it has
pub none_further : (s : SimValue) (r : ℕ) (w : Selector) (k : ℕ)
    → ((q j : ℕ) → q < k → IsEligible (inbound_of s.run r) (history s.run r) q j w → ⊥)
    → ((j : ℕ) → IsEligible (inbound_of s.run r) (history s.run r) k j w → ⊥)
    → (q j : ℕ) → q < k + 1 → IsEligible (inbound_of s.run r) (history s.run r) q j w → ⊥
none_further s r w k before here q j low e = go (cases_eq q k)
  where
    go : (q ≡ k) ⊎ (q ≡ k → ⊥) → ⊥
    go (inl same) = here j (subst (λ z. IsEligible (inbound_of s.run r) (history s.run r) z j w) same e)
    go (inr apart) = before q j (omega (arith, low, apart)) e

-- a rank that stands still ends as it is seen
ends_there : (s : SimValue) (r : ℕ) (x : RankOutcome) → (still : StandsStill s r) → EndsAt s r x → end_of still.want ≡ Some x.end
ends_there s r x still ends =
    let m = some_there (slice_get s.machines r) (λ m. Wants m ends.want) ends.asks in
    let one : Some still.machine ≡ Some m.0 = sym still.there ∙ m.1 in
    let same : still.machine ≡ m.0 = cc in
    let it : still.want ≡ ends.want = sym still.asks.at_want ∙ ap machine_want same ∙ m.2.at_want in
    ap end_of it ∙ ends.ended

-- so this is its outcome
pub outcome_at : (s : SimValue) (r : ℕ) (x : RankOutcome) → Simulates s → StandsStill s r → EndsAt s r x
    → IsRankOutcome (start_of s.program (length s.machines) r) (history s.run r) x
outcome_at s r x stands still ends =
    outcome_there s r still.machine still.want stands still.there still.asks (no_own s r still.want still.nothing) x ends.lines
    (ends_there s r x still ends)
