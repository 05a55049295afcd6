-- Where all was searched, each run of the program is a part of one whose outcome was found. So each outcome is found.
use Rattle.std.proofs.Common.{◌≡◌, ℕ, List, ◌⊎◌, inl, inr}
use Rattle.rank_machine.specs.States.{State}
use Rattle.rank_machine.specs.Acts.{Act}
use Rattle.crash_free.specs.Runs.{Passed, history}
use Rattle.explore.specs.Sending.{IsRunUnder}
use Rattle.crash_free.specs.Parts.{IsPartOf}
use Rattle.crash_free.proofs.Reorder.{IsBeginning-trans, history_grows}
use Rattle.explore.specs.Sending.{MayFollowUnder}
use Rattle.explore.specs.Endings.{Ending, IsEndingOf}
use Rattle.explore.specs.Exploring.{and_then, IsExplored, up_to, fixed, alone, branch}
use Rattle.explore.proofs.Alone.{persistent_act}
use Rattle.explore.proofs.Exploring.{all_or_next, all_of_maximal, both_ways, follows_both}
use Rattle.explore.proofs.Fixed.{fixed_act}
use Rattle.explore.specs.declared.send_mode.SendMode.{SendMode}

-- The run is a part of one that has what was found: an outcome, or an ending.
pub record IsKnown {E : Type 0} (has : List Passed → E → Type 0) (found : E → Type 0) (C : List Passed) : Type 0 where
  pub run : List Passed
  pub outcome : E
  pub is_its : has run outcome
  pub is_found : found outcome
  pub part : IsPartOf C run

-- a part of a run that is known is known
known_part : {E : Type 0} (has : List Passed → E → Type 0) (found : E → Type 0) (C D : List Passed) → IsPartOf C D → IsKnown has found D
    → IsKnown has found C
known_part has found C D part k =
    record {
      run = k.run;
      outcome = k.outcome;
      is_its = k.is_its;
      is_found = k.is_found;
      part = λ q. IsBeginning-trans (history C q) (history D q) (history k.run q) (part q) (k.part q);
    }

-- Where all was searched that may follow a run, each run that it is a part of is known.
pub each_is_known : (mode : SendMode) → (start : ℕ → State) (n : ℕ) (found : Ending → Type 0) (P C : List Passed) → IsExplored mode start n found P → IsRunUnder mode start n P
    → IsRunUnder mode start n C → IsPartOf P C → IsKnown (IsEndingOf mode start n) found C
each_is_known mode start n found P C (up_to end) run whole part =
    record { run = P; outcome = end.0; is_its = end.1; is_found = end.2; part = all_of_maximal mode start n P C run whole end.1.outcome.maximal part }
each_is_known mode start n found P C (fixed r act fix explored) run whole part =
    go (λ D whole' part'. each_is_known mode start n found (and_then P r act) D explored (run, fix.low, fix.may, fix.released) whole' part')
    (fixed_act mode start n P C r act run whole part fix)
  where
    go : ((D : List Passed) → IsRunUnder mode start n D → IsPartOf (and_then P r act) D → IsKnown (IsEndingOf mode start n) found D)
        → IsPartOf (and_then P r act) C ⊎ ((history C r ≡ history P r) × MayFollowUnder mode start n C r act) → IsKnown (IsEndingOf mode start n) found C
    go known (inl more) = known C whole more
    go known (inr still) =
        let both = follows_both mode start n P C r act part still.0 (fix.low, fix.may, fix.released) in
        known_part (IsEndingOf mode start n) found C (and_then C r act) (λ q. history_grows C (record { rank = r; act = act }) q)
        (known (and_then C r act) (whole, both.0.0, both.0.1, both.0.2) both.1)
each_is_known mode start n found P C (alone r act may persistent explored) run whole part =
    go (λ a may' D whole' part'. each_is_known mode start n found (and_then P r a) D (explored a may') (run, may'.0, may'.1, may'.2) whole' part')
    (persistent_act mode start n P C r run whole part persistent)
  where
    go : ((a : Act) → MayFollowUnder mode start n P r a → (D : List Passed) → IsRunUnder mode start n D → IsPartOf (and_then P r a) D → IsKnown (IsEndingOf mode start n) found D)
        → ((a : Act) × MayFollowUnder mode start n P r a × IsPartOf (and_then P r a) C) ⊎ (history C r ≡ history P r) → IsKnown (IsEndingOf mode start n) found C
    go known (inl next) = known next.0 next.1 C whole next.2
    go known (inr still) =
        let both = follows_both mode start n P C r act part still may in
        known_part (IsEndingOf mode start n) found C (and_then C r act) (λ q. history_grows C (record { rank = r; act = act }) q)
        (known act may (and_then C r act) (whole, both.0.0, both.0.1, both.0.2) both.1)
each_is_known mode start n found P C (branch r act may explored) run whole part =
    go (λ q a may' D whole' part'. each_is_known mode start n found (and_then P q a) D (explored q a may') (run, may'.0, may'.1, may'.2) whole' part')
    (all_or_next mode start n P C run whole part)
  where
    go : ((q : ℕ) (a : Act) → MayFollowUnder mode start n P q a → (D : List Passed) → IsRunUnder mode start n D → IsPartOf (and_then P q a) D → IsKnown (IsEndingOf mode start n) found D)
        → IsPartOf C P ⊎ ((q : ℕ) × (a : Act) × MayFollowUnder mode start n P q a × IsPartOf (and_then P q a) C) → IsKnown (IsEndingOf mode start n) found C
    go known (inl all) =
        let both = follows_both mode start n P C r act part (both_ways (history C r) (history P r) (all r) (part r)) may in
        known_part (IsEndingOf mode start n) found C (and_then C r act) (λ q. history_grows C (record { rank = r; act = act }) q)
        (known r act may (and_then C r act) (whole, both.0.0, both.0.1, both.0.2) both.1)
    go known (inr next) = known next.0 next.1 next.2 C whole next.3
