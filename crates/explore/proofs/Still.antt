-- Where each rank stands still by the mode the run is maximal, and its outcome is what the ranks printed and asked for last; one that a send holds has
-- stalled.
use Rattle.std.proofs.Common.{◌≡◌, ℕ, ℤ, List, [], ◌∷◌, ◌++◌, Some, length, slice_get, ◌⊎◌, inl, inr, sym, subst, ◌∙◌}
use Rattle.std.specs.Prelude.{IfOk, Result, Ok, Err, map}
use Rattle.crash_free.specs.Runs.{printed}
use Rattle.crash_free.specs.Sim.{SimValue, Simulates, start_of}
use Rattle.crash_free.proofs.Lists.{push_cases}
use Rattle.audit.specs.declared.outcome.End.TheVariants as end
use Rattle.audit.specs.FinalRuns.Maximal.{RankOutcome}
use Rattle.audit.specs.FinalRuns.Stills.{StandsStill, EndsAt}
use Rattle.audit.proofs.FinalRunsLaws.Stills.{no_act, outcome_at}
use Rattle.explore.specs.Sending.{IsReleasedAt, HasRunUnder, IsMaximalUnder, IsRankOutcomeUnder, IsOutcomeUnder, StandsStillUnder, AllStillUnder}
use Rattle.explore.specs.declared.send_mode.SendMode.{SendMode}

-- where each rank stands still no act may follow
all_still : (mode : SendMode) → (s : SimValue) → Simulates s → AllStillUnder mode s
    → IsMaximalUnder mode (start_of s.program (length s.machines)) (length s.machines) s.run
all_still mode s stands still r act may = go (still r may.0)
  where
    go : StandsStillUnder mode s r → ⊥
    go (inl held) = held may.2
    go (inr x) = no_act s r x.machine x.want act stands x.there x.asks x.nothing (may.0, may.1)

-- so what is seen of the ranks is the outcome of the run
pub outcome_still : (mode : SendMode) → (s : SimValue) (o : List RankOutcome) → Simulates s → HasRunUnder mode s → AllStillUnder mode s
    → length o ≡ length s.machines
    → ((r : ℕ) (x : RankOutcome) → slice_get o r ≡ Some x
    → IsRankOutcomeUnder mode (start_of s.program (length s.machines)) (length s.machines) s.run r x)
    → IsOutcomeUnder mode (start_of s.program (length s.machines)) (length s.machines) s.run o
outcome_still mode s o stands run still as_many each =
    record { is_run = run; maximal = all_still mode s stands still; as_many = as_many; each = each }

-- who stands still and isn't held does so where no send waits
pub still_free : (mode : SendMode) → (s : SimValue) (r : ℕ) → IsReleasedAt mode s r → StandsStillUnder mode s r → StandsStill s r
still_free mode s r free (inl held) = absurd (held free)
still_free mode s r free (inr still) = still

-- what is seen of a rank that no send holds
pub seen_free : (mode : SendMode) → (s : SimValue) (r : ℕ) (x : RankOutcome) → Simulates s → IsReleasedAt mode s r → StandsStillUnder mode s r
    → EndsAt s r x → IsRankOutcomeUnder mode (start_of s.program (length s.machines)) (length s.machines) s.run r x
seen_free mode s r x stands free (inl held) ends = absurd (held free)
seen_free mode s r x stands free (inr still) ends = inl (free, outcome_at s r x stands still ends)

-- of one that is held
pub seen_held : (mode : SendMode) → (s : SimValue) (r : ℕ) (x : RankOutcome) → (IsReleasedAt mode s r → ⊥)
    → x.lines ≡ map (λ (line : ℕ × ℤ). line.1) (printed s.run r) → x.end ≡ end.Stalled
    → IsRankOutcomeUnder mode (start_of s.program (length s.machines)) (length s.machines) s.run r x
seen_held mode s r x held lines stalled = inr (record { held = held; lines = lines; stalled = stalled })

-- one more
pub seen_push : (mode : SendMode) → (s : SimValue) (k : ℕ) (xs : List RankOutcome) (x : RankOutcome) → length xs ≡ k
    → ((r : ℕ) (y : RankOutcome) → slice_get xs r ≡ Some y
    → IsRankOutcomeUnder mode (start_of s.program (length s.machines)) (length s.machines) s.run r y)
    → IsRankOutcomeUnder mode (start_of s.program (length s.machines)) (length s.machines) s.run k x
    → (r : ℕ) (y : RankOutcome) → slice_get (xs ++ x ∷ []) r ≡ Some y
    → IsRankOutcomeUnder mode (start_of s.program (length s.machines)) (length s.machines) s.run r y
seen_push mode s k xs x size each one r y e = go (push_cases xs x r y e)
  where
    go : (slice_get xs r ≡ Some y) ⊎ ((r ≡ length xs) × (y ≡ x))
        → IsRankOutcomeUnder mode (start_of s.program (length s.machines)) (length s.machines) s.run r y
    go (inl before) = each r y before
    go (inr last) =
        subst (λ q. IsRankOutcomeUnder mode (start_of s.program (length s.machines)) (length s.machines) s.run q y) (sym (last.0 ∙ size))
        (subst (λ z. IsRankOutcomeUnder mode (start_of s.program (length s.machines)) (length s.machines) s.run k z) (sym last.1) one)

-- what follows from what holds of a value holds of it
pub if_so : {T E : Type 0} (o : Result T E) (P Q : T → Type 0) → IfOk o P → ((x : T) → P x → Q x) → IfOk o Q
if_so (Ok x) P Q p f = f x p
if_so (Err y) P Q p f = tt

-- so does what follows from two such
pub if_both : {T E : Type 0} (o : Result T E) (P P' Q : T → Type 0) → IfOk o P → IfOk o P' → ((x : T) → P x → P' x → Q x) → IfOk o Q
if_both (Ok x) P P' Q p p' f = f x p p'
if_both (Err y) P P' Q p p' f = tt
