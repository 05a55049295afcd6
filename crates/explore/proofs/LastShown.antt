-- What is kept of the messages that ranks were shown.
use Rattle.std.proofs.Common.{◌≡◌, ℕ, ◌<◌, ◌≤◌, Bool, true, false, cond, List, ◌∷◌, Some, ◌⊎◌, inl, inr, refl, sym, ap, subst, ◌∙◌, arith}
use Rattle.std.specs.Prelude.{◌==◌, ◌&&◌, ◌||◌, nat_lt}
use Rattle.std.specs.Ordering.{nat_cmp}
use Rattle.std.specs.Cmp.{unsigned_tied}
use Rattle.std.specs.BTreeMap as tree
use Rattle.std.specs.BTreeMap.{BTreeMap, is_at}
use Rattle.std.proofs.lemmas.Bool.{eqb-true, eq-eqb, ltb-true, lt-ltb, and_parts, and_from, or_cases, or_left, or_right}
use Rattle.matching.proofs.Labels.{both_equal, two}
use Rattle.rank_machine.specs.Acts.{takes, hits}
use Rattle.crash_free.specs.Runs.{Passed}
use Rattle.explore.specs.LastShown.{last_of, pair_cmp, place_or_none, KnowsShown, Raises}
use Rattle.explore.specs.Shown.{shows_it, was_shown}

-- two answers are the same if each yes of one is one of the other
same_answer : (a b : Bool) → (a ≡ true → b ≡ true) → (b ≡ true → a ≡ true) → a ≡ b
same_answer true true f g = refl
same_answer true false f g = sym (f refl)
same_answer false true f g = g refl
same_answer false false f g = refl

-- the act shows one message of one source
shown_by : (r s i a from place : ℕ) → (a == r && (from == s && nat_lt i place)) ≡ true → (a ≡ r) × (from ≡ s) × (i < place)
shown_by r s i a from place is =
    let outer = and_parts (a == r) (from == s && nat_lt i place) is in
    let inner = and_parts (from == s) (nat_lt i place) outer.1 in
    (eqb-true a r outer.0, eqb-true from s inner.0, ltb-true i place inner.1)

-- it shows that message
shows : (r s i a from place : ℕ) → a ≡ r → from ≡ s → i < place → (a == r && (from == s && nat_lt i place)) ≡ true
shows r s i a from place one two low = and_from (a == r) _ (eq-eqb a r one) (and_from (from == s) (nat_lt i place) (eq-eqb from s two) (lt-ltb i place low))

-- what an act shows is kept where its place is
after_one : (a from place : ℕ) (before : Bool) (old new : BTreeMap (ℕ × ℕ) ℕ) (r s i : ℕ)
    → before ≡ nat_lt i (last_of old r s) → Raises old a from place new
    → ((a == r && (from == s && nat_lt i place)) || before) ≡ nat_lt i (last_of new r s)
after_one a from place before old new r s i was raises = same_answer _ _ there back
  where
    there : ((a == r && (from == s && nat_lt i place)) || before) ≡ true → nat_lt i (last_of new r s) ≡ true
    there e = go (or_cases (a == r && (from == s && nat_lt i place)) before e)
      where
        go : ((a == r && (from == s && nat_lt i place)) ≡ true) ⊎ (before ≡ true) → nat_lt i (last_of new r s) ≡ true
        go (inl now) =
            let is = shown_by r s i a from place now in
            let kept : place ≤ last_of new r s =
            subst (λ z. place ≤ last_of new z s) is.0 (subst (λ z. place ≤ last_of new a z) is.1 raises.notes) in
            lt-ltb i _ (omega (arith, is.2, kept))
        go (inr then) =
            let less = ltb-true i _ (sym was ∙ then) in
            let kept = raises.keeps r s in
            lt-ltb i _ (omega (arith, less, kept))

    back : nat_lt i (last_of new r s) ≡ true → ((a == r && (from == s && nat_lt i place)) || before) ≡ true
    back e = go (raises.only r s)
      where
        less : i < last_of new r s
        less = ltb-true i _ e

        go : (last_of new r s ≡ last_of old r s) ⊎ ((r ≡ a) × (s ≡ from) × (last_of new r s ≡ place))
            → ((a == r && (from == s && nat_lt i place)) || before) ≡ true
        go (inl same) = or_right (a == r && (from == s && nat_lt i place)) before (was ∙ lt-ltb i _ (omega (arith, less, same)))
        go (inr is) = or_left _ before (shows r s i a from place (sym is.0) (sym is.1) (omega (arith, less, is.2)))

-- an act that takes or hits a message shows it, and what was shown before stays so
pub shown_more : (acts : List Passed) (p : Passed) (from place : ℕ) (old new : BTreeMap (ℕ × ℕ) ℕ)
    → (p.act ≡ takes from place) ⊎ (p.act ≡ hits from place) → Raises old p.rank from place new → KnowsShown acts old → KnowsShown (p ∷ acts) new
shown_more acts p from place old new (inl is) raises knows r s i =
    subst (λ act. ((p.rank == r && shows_it s i act) || was_shown acts r s i) ≡ nat_lt i (last_of new r s)) (sym is)
    (after_one p.rank from place (was_shown acts r s i) old new r s i (knows r s i) raises)
shown_more acts p from place old new (inr is) raises knows r s i =
    subst (λ act. ((p.rank == r && shows_it s i act) || was_shown acts r s i) ≡ nat_lt i (last_of new r s)) (sym is)
    (after_one p.rank from place (was_shown acts r s i) old new r s i (knows r s i) raises)

-- another act shows nothing
pub shown_as_before : (acts : List Passed) (p : Passed) (last : BTreeMap (ℕ × ℕ) ℕ) → ((s i : ℕ) → shows_it s i p.act ≡ false) → KnowsShown acts last
    → KnowsShown (p ∷ acts) last
shown_as_before acts p last none knows r s i = none_too (p.rank == r) (shows_it s i p.act) (was_shown acts r s i) (none s i) ∙ knows r s i
  where
    none_too : (a b before : Bool) → b ≡ false → ((a && b) || before) ≡ before
    none_too true b before e = rw e refl
    none_too false b before e = refl

-- a pair of a rank and a source is found under that pair alone
tied_pair : (rank source r s : ℕ) → is_at (pair_cmp (rank, source)) (r, s) ≡ (rank == r && source == s)
tied_pair rank source r s = both_equal (nat_cmp rank r) (nat_cmp source s) ∙ two (unsigned_tied rank r) (unsigned_tied source s)

-- a later place that is put in is kept
pub raised : (old new : BTreeMap (ℕ × ℕ) ℕ) (rank source place : ℕ) → last_of old rank source < place
    → ((k : ℕ × ℕ) → tree.get pair_cmp new k ≡ cond (is_at (pair_cmp (rank, source)) k) (Some place) (tree.get pair_cmp old k))
    → tree.get pair_cmp new (rank, source) ≡ Some place → Raises old rank source place new
raised old new rank source place later updates there =
    record { keeps = λ r s. kept r s (one_or_as_before r s); notes = (let e = here in omega (arith, e)); only = λ r s. only r s (one_or_as_before r s) }
  where
    here : last_of new rank source ≡ place
    here = ap place_or_none there

    one_or_as_before : (r s : ℕ) → ((rank ≡ r) × (source ≡ s)) ⊎ (last_of new r s ≡ last_of old r s)
    one_or_as_before r s = go (rank == r && source == s) refl
      where
        go : (b : Bool) → (rank == r && source == s) ≡ b → ((rank ≡ r) × (source ≡ s)) ⊎ (last_of new r s ≡ last_of old r s)
        go true e = (let both = and_parts (rank == r) (source == s) e in inl (eqb-true rank r both.0, eqb-true source s both.1))
        go false e =
            inr (ap place_or_none (updates (r, s) ∙ ap (λ b. cond b (Some place) (tree.get pair_cmp old (r, s))) (tied_pair rank source r s ∙ e)))

    kept : (r s : ℕ) → ((rank ≡ r) × (source ≡ s)) ⊎ (last_of new r s ≡ last_of old r s) → last_of old r s ≤ last_of new r s
    kept r s (inl e) =
        subst (λ z. last_of old z s ≤ last_of new z s) e.0
        (subst (λ z. last_of old rank z ≤ last_of new rank z) e.1 (let is = here in omega (arith, later, is)))
    kept r s (inr e) = omega (arith, e)

    only : (r s : ℕ) → ((rank ≡ r) × (source ≡ s)) ⊎ (last_of new r s ≡ last_of old r s)
        → (last_of new r s ≡ last_of old r s) ⊎ ((r ≡ rank) × (s ≡ source) × (last_of new r s ≡ place))
    only r s (inl e) =
        inr (sym e.0, sym e.1, subst (λ z. last_of new z s ≡ place) e.0 (subst (λ z. last_of new rank z ≡ place) e.1 here))
    only r s (inr e) = inl e

-- where no later one is, all stays
pub raised_before : (last : BTreeMap (ℕ × ℕ) ℕ) (rank source place : ℕ) → (last_of last rank source < place → ⊥) → Raises last rank source place last
raised_before last rank source place late = record { keeps = λ r s. omega arith; notes = omega (arith, late); only = λ r s. inl refl }
