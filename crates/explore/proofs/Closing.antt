-- A search that closes over states: each maximal run ends as one that was found. What was searched from a run has a leaf on each maximal run that
-- goes on from it, as that makes a fixed act, or one of a rank's persistent ones, somewhere, and it may be made first. A leaf that was met is
-- longer, so fewer acts are left, and it goes on from there. Where the states have their lengths none comes back, so what was searched is a tree.
use Rattle.std.proofs.Common.{◌≡◌, ℕ, zero, suc, ◌+◌, ◌<◌, ◌≤◌, List, length, ◌⊎◌, inl, inr, subst, arith}
use Rattle.rank_machine.specs.States.{State}
use Rattle.rank_machine.specs.Acts.{Act}
use Rattle.crash_free.specs.Runs.{Passed, history}
use Rattle.explore.specs.Sending.{IsRunUnder}
use Rattle.crash_free.specs.Parts.{IsPartOf}
use Rattle.explore.specs.Sending.{MayFollowUnder}
use Rattle.explore.specs.Closing.{EndsOrWasMet, EndsOrIsLonger, IsClosed}
use Rattle.explore.specs.Endings.{Ending, IsEndingOf}
use Rattle.explore.specs.Exploring.{and_then, EndsFound, IsSearchedUpTo, up_to, fixed, alone, branch, IsExplored}
use Rattle.explore.proofs.Alone.{persistent_act}
use Rattle.explore.proofs.Exploring.{all_or_next, all_of_maximal, both_ways, fixed_in_maximal, follows_both}
use Rattle.explore.proofs.Finding.{part_shorter}
use Rattle.explore.proofs.Outcomes.{one_ending}
use Rattle.explore.specs.declared.send_mode.SendMode.{SendMode}

-- A run of one kind that is a part of this run.
record LeafOn (mode : SendMode) (start : ℕ → State) (n : ℕ) (last : List Passed → Type 0) (C : List Passed) : Type 0 where
  run : List Passed
  is_run : IsRunUnder mode start n run
  part : IsPartOf run C
  it : last run

-- on each maximal run that goes on from where all was searched up to runs of one kind there is one
leaf_on : (mode : SendMode) → (start : ℕ → State) (n : ℕ) (last : List Passed → Type 0) (P C : List Passed) (e : Ending) → IsSearchedUpTo mode start n last P
    → IsRunUnder mode start n P → IsEndingOf mode start n C e → IsPartOf P C → LeafOn mode start n last C
leaf_on mode start n last P C e (up_to it) run is_its part = record { run = P; is_run = run; part = part; it = it }
leaf_on mode start n last P C e (fixed r act fix searched) run is_its part =
    leaf_on mode start n last (and_then P r act) C e searched (run, fix.low, fix.may, fix.released) is_its
    (fixed_in_maximal mode start n P C r act run is_its.outcome.is_run is_its.outcome.maximal part fix)
leaf_on mode start n last P C e (alone r act may persistent searched) run is_its part =
    go (λ a may' part'. leaf_on mode start n last (and_then P r a) C e (searched a may') (run, may'.0, may'.1, may'.2) is_its part')
    (persistent_act mode start n P C r run is_its.outcome.is_run part persistent)
  where
    go : ((a : Act) → MayFollowUnder mode start n P r a → IsPartOf (and_then P r a) C → LeafOn mode start n last C)
        → ((a : Act) × MayFollowUnder mode start n P r a × IsPartOf (and_then P r a) C) ⊎ (history C r ≡ history P r) → LeafOn mode start n last C
    go on (inl next) = on next.0 next.1 next.2
    go on (inr still) = absurd (is_its.outcome.maximal r act (follows_both mode start n P C r act part still may).0)
leaf_on mode start n last P C e (branch r act may searched) run is_its part =
    go (λ q a may' part'. leaf_on mode start n last (and_then P q a) C e (searched q a may') (run, may'.0, may'.1, may'.2) is_its part')
    (all_or_next mode start n P C run is_its.outcome.is_run part)
  where
    go : ((q : ℕ) (a : Act) → MayFollowUnder mode start n P q a → IsPartOf (and_then P q a) C → LeafOn mode start n last C)
        → IsPartOf C P ⊎ ((q : ℕ) × (a : Act) × MayFollowUnder mode start n P q a × IsPartOf (and_then P q a) C) → LeafOn mode start n last C
    go on (inl all) =
        absurd
        (is_its.outcome.maximal r act (follows_both mode start n P C r act part (both_ways (history C r) (history P r) (all r) (part r)) may).0)
    go on (inr next) = on next.0 next.1 next.2 next.3

-- a maximal run that is a part of another has its ending
ending_of_part : (mode : SendMode) → (start : ℕ → State) (n : ℕ) (found : Ending → Type 0) (P C : List Passed) (e : Ending) → IsEndingOf mode start n C e
    → IsPartOf P C → EndsFound mode start n found P → found e
ending_of_part mode start n found P C e is_its part ended =
    let back = all_of_maximal mode start n P C ended.1.outcome.is_run is_its.outcome.is_run ended.1.outcome.maximal part in
    let same : (r : ℕ) → history P r ≡ history C r = λ r. both_ways (history P r) (history C r) (part r) (back r) in
    subst found (one_ending mode start n C P e ended.0 same is_its ended.1) ended.2

-- What was searched up to runs of one kind, and after each of these up to others, was up to those.
searched_on : (mode : SendMode) → (start : ℕ → State) (n : ℕ) (last last' : List Passed → Type 0) (P : List Passed)
    → ((Q : List Passed) → last Q → IsSearchedUpTo mode start n last' Q) → IsSearchedUpTo mode start n last P → IsSearchedUpTo mode start n last' P
searched_on mode start n last last' P on (up_to it) = on P it
searched_on mode start n last last' P on (fixed r act fix searched) = fixed r act fix (searched_on mode start n last last' (and_then P r act) on searched)
searched_on mode start n last last' P on (alone r act may persistent searched) =
    alone r act may persistent (λ a may'. searched_on mode start n last last' (and_then P r a) on (searched a may'))
searched_on mode start n last last' P on (branch r act may searched) =
    branch r act may (λ q a may'. searched_on mode start n last last' (and_then P q a) on (searched q a may'))

-- What was searched up to ends and runs that were met was so up to runs of more acts, if the first has more.
pub searched_longer : (mode : SendMode) → (start : ℕ → State) (n : ℕ) (found : Ending → Type 0) (met : List Passed → Type 0) (k : ℕ) (P : List Passed) → k < length P
    → IsSearchedUpTo mode start n (EndsOrWasMet mode start n found met) P → IsSearchedUpTo mode start n (EndsOrIsLonger mode start n found met k) P
searched_longer mode start n found met k P low (up_to (inl ended)) = up_to (inl ended)
searched_longer mode start n found met k P low (up_to (inr a)) = up_to (inr (low, a))
searched_longer mode start n found met k P low (fixed r act fix searched) =
    fixed r act fix (searched_longer mode start n found met k (and_then P r act) (omega (arith, low)) searched)
searched_longer mode start n found met k P low (alone r act may persistent searched) =
    alone r act may persistent (λ a may'. searched_longer mode start n found met k (and_then P r a) (omega (arith, low)) (searched a may'))
searched_longer mode start n found met k P low (branch r act may searched) =
    branch r act may (λ q a may'. searched_longer mode start n found met k (and_then P q a) (omega (arith, low)) (searched q a may'))

-- and up to those was up to any
pub searched_any : (mode : SendMode) → (start : ℕ → State) (n : ℕ) (found : Ending → Type 0) (met : List Passed → Type 0) (k : ℕ) (P : List Passed)
    → IsSearchedUpTo mode start n (EndsOrIsLonger mode start n found met k) P → IsSearchedUpTo mode start n (EndsOrWasMet mode start n found met) P
searched_any mode start n found met k P searched =
    searched_on mode start n (EndsOrIsLonger mode start n found met k) (EndsOrWasMet mode start n found met) P any searched
  where
    any : (Q : List Passed) → EndsOrIsLonger mode start n found met k Q → IsSearchedUpTo mode start n (EndsOrWasMet mode start n found met) Q
    any Q (inl ended) = up_to (inl ended)
    any Q (inr longer) = up_to (inr longer.1)

module _ (mode : SendMode) (start : ℕ → State) (n : ℕ) (found : Ending → Type 0) (met : List Passed → Type 0) (runs : (m : List Passed) → met m → IsRunUnder mode start n m)
    (closed : IsClosed mode start n found met) where
  -- From a run that was met, by the number of acts that are left.
  found_within : (C : List Passed) (e : Ending) → IsEndingOf mode start n C e → (k : ℕ) (m : List Passed) → met m → IsPartOf m C
      → length C < length m + k → found e
  found_within C e is_its zero m a part few =
      let short = part_shorter mode start n m C (runs m a) is_its.outcome.is_run part in
      absurd (omega (arith, short, few))
  found_within C e is_its (suc k) m a part few =
      go (λ Q b part' few'. found_within C e is_its k Q b part' few')
      (leaf_on mode start n (EndsOrIsLonger mode start n found met (length m)) m C e (closed m a) (runs m a) is_its part)
    where
      go : ((Q : List Passed) → met Q → IsPartOf Q C → length C < length Q + k → found e)
          → LeafOn mode start n (EndsOrIsLonger mode start n found met (length m)) C → found e
      go on leaf = by leaf.it
        where
          by : EndsOrIsLonger mode start n found met (length m) leaf.run → found e
          by (inl ended) = ending_of_part mode start n found leaf.run C e is_its leaf.part ended
          by (inr longer) = on leaf.run longer.1 leaf.part (let more = longer.0 in omega (arith, few, more))

  -- So the ending of each maximal run was found, from any run after which all was searched up to those.
  pub closed_found : (P C : List Passed) (e : Ending) → IsSearchedUpTo mode start n (EndsOrWasMet mode start n found met) P → IsRunUnder mode start n P
      → IsPartOf P C → IsEndingOf mode start n C e → found e
  closed_found P C e searched run part is_its =
      go (leaf_on mode start n (EndsOrWasMet mode start n found met) P C e searched run is_its part)
    where
      go : LeafOn mode start n (EndsOrWasMet mode start n found met) C → found e
      go leaf = by leaf.it
        where
          by : EndsOrWasMet mode start n found met leaf.run → found e
          by (inl ended) = ending_of_part mode start n found leaf.run C e is_its leaf.part ended
          by (inr a) = found_within C e is_its (suc (length C)) leaf.run a leaf.part (omega arith)

  -- Where no run that was met has more acts than so many, none comes back, and all was searched up to ends.
  module _ (most : ℕ) (short : (m : List Passed) → met m → length m ≤ most) where
    explored_within : (k : ℕ) (m : List Passed) → met m → most < length m + k → IsExplored mode start n found m
    explored_within zero m a few = absurd (let low = short m a in omega (arith, low, few))
    explored_within (suc k) m a few =
        searched_on mode start n (EndsOrIsLonger mode start n found met (length m)) (EndsFound mode start n found) m
        (λ Q leaf. on Q (λ b few'. explored_within k Q b few') leaf) (closed m a)
      where
        on : (Q : List Passed) → (met Q → most < length Q + k → IsExplored mode start n found Q) → EndsOrIsLonger mode start n found met (length m) Q
            → IsExplored mode start n found Q
        on Q further (inl ended) = up_to ended
        on Q further (inr longer) = further longer.1 (let more = longer.0 in omega (arith, few, more))

    pub closed_explored : (P : List Passed) → IsSearchedUpTo mode start n (EndsOrWasMet mode start n found met) P → IsExplored mode start n found P
    closed_explored P searched = searched_on mode start n (EndsOrWasMet mode start n found met) (EndsFound mode start n found) P on searched
      where
        on : (Q : List Passed) → EndsOrWasMet mode start n found met Q → IsExplored mode start n found Q
        on Q (inl ended) = up_to ended
        on Q (inr a) = explored_within (suc most) Q a (omega arith)
