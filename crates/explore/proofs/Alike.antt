-- Runs that stand alike have the same outcomes, end alike, and are searched alike: so a search may leave a run out where one was searched that
-- it stands alike with.
use Rattle.std.proofs.Common.{◌≡◌, ℕ, ◌+◌, ◌<◌, List, length, inl, inr, sym, ap, subst, ◌∙◌, arith}
use Rattle.std.proofs.lemmas.Option.{slice_get_within}
use Rattle.rank_machine.specs.States.{State}
use Rattle.crash_free.proofs.LiveVariablesLaws.Wanting.{wants_same}
use Rattle.crash_free.specs.Runs.{Passed, history}
use Rattle.explore.specs.Sending.{IsRunUnder}
use Rattle.crash_free.specs.Alike.{StandsAlike, StandAlike}
use Rattle.crash_free.proofs.Alike.{comes_too, alike_back}
use Rattle.crash_free.proofs.Unreceived.{left_same}
use Rattle.audit.specs.FinalRuns.Maximal.{RankOutcome, end_of, IsRankOutcome}
use Rattle.explore.specs.Sending.{IsMaximalUnder, IsOutcomeUnder, IsRankOutcomeUnder}
use Rattle.explore.specs.Endings.{Ending, IsEndingOf}
use Rattle.explore.specs.Exploring.{and_then, HasOneAnswer, EndsFound, IsExplored, IsSearchedUpTo, up_to, fixed, alone, branch}
use Rattle.explore.specs.Exploring.{AlwaysEndsIn, at_end, goes_on}
use Rattle.explore.specs.Onward.{GoesOnTo, there, further, MayEndSo}
use Rattle.audit.proofs.FinalRunsLaws.Simulating.{no_step}
use Rattle.explore.proofs.AlikeAlone.{persistent_too}
use Rattle.explore.specs.declared.send_mode.SendMode.{SendMode}
use Rattle.explore.proofs.Sending.{partner_under, released_too}

-- where the one is maximal the other is
maximal_too : (mode : SendMode) → (start : ℕ → State) (n : ℕ) (P Q : List Passed) → IsRunUnder mode start n P → IsRunUnder mode start n Q → StandAlike start n P Q → IsMaximalUnder mode start n P
    → IsMaximalUnder mode start n Q
maximal_too mode start n P Q run run' alike maximal r act may =
    let f = partner_under mode start n Q P run' run (alike_back start n P Q alike) r act may.0 may.1 may.2 in
    maximal r f.other (may.0, f.may, f.released)

-- a rank that stands alike in both has one outcome
rank_too : (start : State) (n : ℕ) (P Q : List Passed) (r : ℕ) (x : RankOutcome) → StandsAlike start n P Q r → IsRankOutcome start (history P r) x
    → IsRankOutcome start (history Q r) x
rank_too start n P Q r x a o =
    let too =
    comes_too start (history P r) (history Q r) a.state a.other o.stands a.agrees a.comes a.comes_too o.after o.reached o.inner
    (no_step o.stands x.end o.ended) in
    record {
      lines = o.lines ∙ a.lines;
      after = too.after;
      stands = too.stands;
      reached = too.runs;
      inner = too.inners;
      ended = ap end_of (sym (wants_same o.stands too.stands too.agrees)) ∙ o.ended;
    }

-- so what is seen of it in the one is in the other
seen_alike : (mode : SendMode) → (start : ℕ → State) (n : ℕ) (P Q : List Passed) (r : ℕ) (x : RankOutcome) → r < n → StandAlike start n P Q
    → IsRankOutcomeUnder mode start n P r x → IsRankOutcomeUnder mode start n Q r x
seen_alike mode start n P Q r x low alike (inl free) =
    inl (released_too mode start n P Q r low alike free.0, rank_too (start r) n P Q r x (alike r low) free.1)
seen_alike mode start n P Q r x low alike (inr held) =
    inr
    (record {
      held = λ released. held.held (released_too mode start n Q P r low (alike_back start n P Q alike) released);
      lines = held.lines ∙ (alike r low).lines;
      stalled = held.stalled;
    })

-- so the outcome of the one is that of the other
outcome_too : (mode : SendMode) → (start : ℕ → State) (n : ℕ) (P Q : List Passed) (o : List RankOutcome) → IsRunUnder mode start n Q → StandAlike start n P Q → IsOutcomeUnder mode start n P o
    → IsOutcomeUnder mode start n Q o
outcome_too mode start n P Q o run' alike is_its =
    record {
      is_run = run';
      maximal = maximal_too mode start n P Q is_its.is_run run' alike is_its.maximal;
      as_many = is_its.as_many;
      each =
          λ r x e.
          (let low : r < n = subst (λ k. r < k) is_its.as_many (slice_get_within o r x e) in
          seen_alike mode start n P Q r x low alike (is_its.each r x e));
    }

-- and so is what was never received in it
ending_too : (mode : SendMode) → (start : ℕ → State) (n : ℕ) (P Q : List Passed) (e : Ending) → IsRunUnder mode start n Q → StandAlike start n P Q → IsEndingOf mode start n P e
    → IsEndingOf mode start n Q e
ending_too mode start n P Q e run' alike is_its =
    record {
      outcome = outcome_too mode start n P Q e.ranks run' alike is_its.outcome;
      left = is_its.left ∙ left_same n P Q (λ s r low low'. (alike r low').left s low);
    }

-- A run that goes on from the other, and stands alike with one that goes on from the first.
pub record Onward (mode : SendMode) (start : ℕ → State) (n : ℕ) (Q C : List Passed) : Type 0 where
  pub run : List Passed
  pub is_run : IsRunUnder mode start n run
  pub onward : GoesOnTo mode start n Q run
  pub alike : StandAlike start n C run

-- for each run that goes on from the one there is such a run
goes_on_too : (mode : SendMode) → (start : ℕ → State) (n : ℕ) (P Q C : List Passed) → IsRunUnder mode start n P → IsRunUnder mode start n Q → StandAlike start n P Q → GoesOnTo mode start n P C
    → Onward mode start n Q C
goes_on_too mode start n P Q C run run' alike there = record { run = Q; is_run = run'; onward = there; alike = alike }
goes_on_too mode start n P Q C run run' alike (further r act may on) =
    let f = partner_under mode start n P Q run run' alike r act may.0 may.1 may.2 in
    let next = goes_on_too mode start n (and_then P r act) (and_then Q r f.other) C (run, may.0, may.1, may.2) (run', may.0, f.may, f.released) f.alike on in
    record { run = next.run; is_run = next.is_run; onward = further r f.other (may.0, f.may, f.released) next.onward; alike = next.alike }

-- So the outcomes of the maximal runs that go on from the one are those of the maximal runs that go on from the other.
pub ends_so_too : (mode : SendMode) → (start : ℕ → State) (n : ℕ) (P Q : List Passed) → IsRunUnder mode start n P → IsRunUnder mode start n Q → StandAlike start n P Q → (o : List RankOutcome)
    → MayEndSo mode start n P o → MayEndSo mode start n Q o
ends_so_too mode start n P Q run run' alike o m =
    let next = goes_on_too mode start n P Q m.0 run run' alike m.1 in
    (next.run, next.onward, outcome_too mode start n m.0 next.run o next.is_run next.alike m.2)

-- where each way on from the one comes to an end that is found, each from the other does
pub always_ends_too : (mode : SendMode) → (start : ℕ → State) (n : ℕ) (found : List RankOutcome → Type 0) (P Q : List Passed) → IsRunUnder mode start n P → IsRunUnder mode start n Q
    → StandAlike start n P Q → AlwaysEndsIn mode start n found P → AlwaysEndsIn mode start n found Q
always_ends_too mode start n found P Q run run' alike (at_end o is_its is_found) = at_end o (outcome_too mode start n P Q o run' alike is_its) is_found
always_ends_too mode start n found P Q run run' alike (goes_on r act may ending) =
    let f = partner_under mode start n P Q run run' alike r act may.0 may.1 may.2 in
    goes_on r f.other (may.0, f.may, f.released)
    (λ q a may'.
    (let g = partner_under mode start n Q P run' run (alike_back start n P Q alike) q a may'.0 may'.1 may'.2 in
    always_ends_too mode start n found (and_then P q g.other) (and_then Q q a) (run, may'.0, g.may, g.released) (run', may'.0, may'.1, may'.2)
    (alike_back start n (and_then Q q a) (and_then P q g.other) g.alike) (ending q g.other (may'.0, g.may, g.released))))

-- Where all was searched that may follow the one, up to runs of one kind, all was that may follow the other, up to runs that stand alike with
-- these and have as many acts more or less as it has.
pub searched_too : (mode : SendMode) → (start : ℕ → State) (n : ℕ) (a b : ℕ) (last last' : List Passed → Type 0)
    → ((C D : List Passed) → IsRunUnder mode start n D → StandAlike start n C D → length D + a ≡ length C + b → last C → last' D)
    → (P Q : List Passed) → IsRunUnder mode start n P → IsRunUnder mode start n Q → StandAlike start n P Q → length Q + a ≡ length P + b
    → IsSearchedUpTo mode start n last P → IsSearchedUpTo mode start n last' Q
searched_too mode start n a b last last' ends P Q run run' alike long (up_to it) = up_to (ends P Q run' alike long it)
searched_too mode start n a b last last' ends P Q run run' alike long (fixed r act fix searched) =
    let f = partner_under mode start n P Q run run' alike r act fix.low fix.may fix.released in
    fixed r f.other
    (record { low = fix.low; may = f.may; one = subst HasOneAnswer (sym f.wants_same) fix.one; released = f.released })
    (searched_too mode start n a b last last' ends (and_then P r act) (and_then Q r f.other) (run, fix.low, fix.may, fix.released) (run', fix.low, f.may, f.released) f.alike
    (omega (arith, long)) searched)
searched_too mode start n a b last last' ends P Q run run' alike long (alone r act may persistent searched) =
    let f = partner_under mode start n P Q run run' alike r act may.0 may.1 may.2 in
    alone r f.other (may.0, f.may, f.released) (persistent_too mode start n P Q r run run' alike persistent)
    (λ c may'.
    (let g = partner_under mode start n Q P run' run (alike_back start n P Q alike) r c may'.0 may'.1 may'.2 in
    searched_too mode start n a b last last' ends (and_then P r g.other) (and_then Q r c) (run, may'.0, g.may, g.released) (run', may'.0, may'.1, may'.2)
    (alike_back start n (and_then Q r c) (and_then P r g.other) g.alike) (omega (arith, long)) (searched g.other (may'.0, g.may, g.released))))
searched_too mode start n a b last last' ends P Q run run' alike long (branch r act may searched) =
    let f = partner_under mode start n P Q run run' alike r act may.0 may.1 may.2 in
    branch r f.other (may.0, f.may, f.released)
    (λ q c may'.
    (let g = partner_under mode start n Q P run' run (alike_back start n P Q alike) q c may'.0 may'.1 may'.2 in
    searched_too mode start n a b last last' ends (and_then P q g.other) (and_then Q q c) (run, may'.0, g.may, g.released) (run', may'.0, may'.1, may'.2)
    (alike_back start n (and_then Q q c) (and_then P q g.other) g.alike) (omega (arith, long)) (searched q g.other (may'.0, g.may, g.released))))

-- what ends as was found does so where it stands alike
pub ends_found_too : (mode : SendMode) → (start : ℕ → State) (n : ℕ) (found : Ending → Type 0) (C D : List Passed) → IsRunUnder mode start n D → StandAlike start n C D
    → EndsFound mode start n found C → EndsFound mode start n found D
ends_found_too mode start n found C D run alike ended = (ended.0, ending_too mode start n C D ended.0 run alike ended.1, ended.2)

-- so where all was searched that may follow the one, all was that may follow the other
pub explored_too : (mode : SendMode) → (start : ℕ → State) (n : ℕ) (found : Ending → Type 0) (P Q : List Passed) → IsRunUnder mode start n P → IsRunUnder mode start n Q
    → StandAlike start n P Q → IsExplored mode start n found P → IsExplored mode start n found Q
explored_too mode start n found P Q run run' alike explored =
    searched_too mode start n (length P) (length Q) (EndsFound mode start n found) (EndsFound mode start n found)
    (λ C D here alike' long ended. ends_found_too mode start n found C D here alike' ended) P Q run run' alike (omega arith) explored
