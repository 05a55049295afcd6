-- Outcomes that were found, with what was never received in runs that have them: their endings.
use Rattle.std.proofs.Common.{◌≡◌, ℕ, zero, suc, ◌<◌, List, [], ◌∷◌, ◌++◌, Some, length, slice_get, ◌⊎◌, inl, inr, refl, sym, ap, subst, ◌∙◌}
use Rattle.std.proofs.Common.{Result, Ok, Err, get_or}
use Rattle.std.specs.Prelude.{OnErr, OnOk, map, option_map, slice_set}
use Rattle.std.specs.BTreeMap.{BTreeMap}
use Rattle.std.proofs.lemmas.Bool.{cases_eq}
use Rattle.std.proofs.lemmas.List.{append_assoc, length-map}
use Rattle.std.proofs.lemmas.Option.{slice_get-get_or, slice_get-map, slice_get_within}
use Rattle.crash_free.specs.declared.leftover.Leftover.{Leftover}
use Rattle.crash_free.proofs.Keeping.{set_apart, set_cases, set_there}
use Rattle.crash_free.proofs.Lists.{push_cases}
use Rattle.audit.specs.FinalRuns.Maximal.{RankOutcome}
use Rattle.explore.specs.Endings.{Ending}
use Rattle.explore.specs.Explored.{FoundOutcomeValue, listed_left, rank_outcomes}
use Rattle.explore.specs.Found.{AddsLeft, AreFound, AreGrouped, HaveEntries, and_left, endings_of, endings_with}
use Rattle.explore.specs.Outcomes.{AreDistinct, IsAmong}
use Rattle.explore.specs.Searching.{Notes}
use Rattle.explore.proofs.Among.{among_first, among_last, among_none, among_push, among_second, distinct_push}
use Rattle.explore.proofs.SeenOf.{seen_at, seen_back, seen_push}

-- an ending of these parts
with_left : List RankOutcome → List Leftover → Ending
with_left ranks left = record { ranks = ranks; left = left }

-- what is among the joined is among the first, or among the second
either_at : {A : Type 0} (xs ys : List A) (i : ℕ) (x : A) → slice_get (xs ++ ys) i ≡ Some x → IsAmong xs x ⊎ IsAmong ys x
either_at [] ys i x e = inr (i, e)
either_at (z ∷ xs) ys zero x e = inl (zero, e)
either_at (z ∷ xs) ys (suc i) x e = go (either_at xs ys i x e)
  where
    go : IsAmong xs x ⊎ IsAmong ys x → IsAmong (z ∷ xs) x ⊎ IsAmong ys x
    go (inl a) = inl (suc a.0, a.1)
    go (inr a) = inr a

-- what a function gives of some that stands among them
map_back : {A B : Type 0} (f : A → B) (xs : List A) (i : ℕ) (y : B) → slice_get (map f xs) i ≡ Some y → (x : A) × IsAmong xs x × (f x ≡ y)
map_back f [] i y e = absurd cc
map_back f (x ∷ xs) zero y e = (x, (zero, refl), cc)
map_back f (x ∷ xs) (suc i) y e = (let more = map_back f xs i y e in (more.0, (suc more.1.0, more.1.1), more.2))

-- an outcome at a place, with leftovers of it, is an ending
ending_there : (xs : List FoundOutcomeValue) (i : ℕ) (x : FoundOutcomeValue) (l : List Leftover) → slice_get xs i ≡ Some x → IsAmong x.left l
    → IsAmong (endings_of xs) (record { ranks = x.ranks; left = l })
ending_there [] i x l e a = absurd cc
ending_there (y ∷ xs) zero x l e a =
    let same : y ≡ x = cc in
    among_first (endings_with y.ranks y.left) (endings_of xs) (record { ranks = x.ranks; left = l })
    (subst (λ (z : FoundOutcomeValue). IsAmong (endings_with z.ranks z.left) (record { ranks = x.ranks; left = l })) (sym same) (
      a.0,
      slice_get-map (λ (k : List Leftover). record { ranks = x.ranks; left = k }) x.left a.0
          ∙ ap (option_map (λ (k : List Leftover). record { ranks = x.ranks; left = k })) a.1,
    ))
ending_there (y ∷ xs) (suc i) x l e a =
    among_second (endings_with y.ranks y.left) (endings_of xs) (record { ranks = x.ranks; left = l }) (ending_there xs i x l e a)

-- An outcome at a place has this ending.
pub record Stands (xs : List FoundOutcomeValue) (e : Ending) : Type 0 where
  pub place : ℕ
  pub outcome : FoundOutcomeValue
  pub there : slice_get xs place ≡ Some outcome
  pub ranks : outcome.ranks ≡ e.ranks
  pub left : IsAmong outcome.left e.left

-- and each ending is that of one
ending_back : (xs : List FoundOutcomeValue) (e : Ending) → IsAmong (endings_of xs) e → Stands xs e
ending_back [] e a = absurd (among_none e a)
ending_back (y ∷ xs) e a = go (λ b. ending_back xs e b) (either_at (endings_with y.ranks y.left) (endings_of xs) a.0 e a.1)
  where
    go : (IsAmong (endings_of xs) e → Stands xs e) → IsAmong (endings_with y.ranks y.left) e ⊎ IsAmong (endings_of xs) e → Stands (y ∷ xs) e
    go later (inl b) =
        let l = map_back (λ (k : List Leftover). record { ranks = y.ranks; left = k }) y.left b.0 e b.1 in
        record {
          place = zero;
          outcome = y;
          there = refl;
          ranks = ap (λ (z : Ending). z.ranks) l.2;
          left = subst (λ z. IsAmong y.left z) (ap (λ (z : Ending). z.left) l.2) l.1;
        }
    go later (inr b) =
        let s = later b in
        record { place = suc s.place; outcome = s.outcome; there = s.there; ranks = s.ranks; left = s.left }

-- so an ending of which some outcome has the parts is one
ending_of : (xs : List FoundOutcomeValue) (i : ℕ) (x : FoundOutcomeValue) (e : Ending) → slice_get xs i ≡ Some x → x.ranks ≡ e.ranks → IsAmong x.left e.left
    → IsAmong (endings_of xs) e
unfolding with_left
ending_of xs i x e there ranks left =
    let same : with_left x.ranks e.left ≡ e = rw ranks refl in
    subst (λ z. IsAmong (endings_of xs) z) same (ending_there xs i x e.left there left)

-- one outcome more has one ending more
endings_push : (xs : List FoundOutcomeValue) (x : FoundOutcomeValue) (l : List Leftover) → x.left ≡ l ∷ []
    → endings_of (xs ++ x ∷ []) ≡ endings_of xs ++ record { ranks = x.ranks; left = l } ∷ []
endings_push [] x l e = ap (λ z. endings_with x.ranks z ++ []) e
endings_push (y ∷ xs) x l e =
    ap (λ z. endings_with y.ranks y.left ++ z) (endings_push xs x l e)
    ∙ sym (append_assoc (endings_with y.ranks y.left) (endings_of xs) (record { ranks = x.ranks; left = l } ∷ []))

-- So a new outcome is noted.
pub noted_new : (xs : List FoundOutcomeValue) (x : FoundOutcomeValue) (l : List Leftover) → x.left ≡ l ∷ []
    → Notes (endings_of xs) (record { ranks = x.ranks; left = l }) (endings_of (xs ++ x ∷ []))
noted_new xs x l e =
    subst (λ z. Notes (endings_of xs) (record { ranks = x.ranks; left = l }) z) (sym (endings_push xs x l e))
    (record {
      kept = λ z a. among_first (endings_of xs) (record { ranks = x.ranks; left = l } ∷ []) z a;
      noted = among_last (endings_of xs) (record { ranks = x.ranks; left = l });
      only = λ z a. among_push (endings_of xs) (record { ranks = x.ranks; left = l }) z a;
    })

-- no ending has these ranks, so no outcome does
pub nowhere : (xs : List FoundOutcomeValue) (m : BTreeMap ℕ ℕ) (o : List RankOutcome) → AreFound xs m
    → ((l : List Leftover) → IsAmong (endings_of xs) (record { ranks = o; left = l }) → ⊥) → IsAmong (rank_outcomes xs) o → ⊥
nowhere xs m o found none a =
    let x = seen_back xs a.0 o a.1 in
    let some = found.some a.0 x.0 x.1 in
    none some.0 (ending_of xs a.0 x.0 (record { ranks = o; left = some.0 }) x.1 x.2 some.1)

-- and the other way
pub no_ending : (xs : List FoundOutcomeValue) (o : List RankOutcome) → (IsAmong (rank_outcomes xs) o → ⊥) → (l : List Leftover)
    → IsAmong (endings_of xs) (record { ranks = o; left = l }) → ⊥
no_ending xs o none l a =
    let s = ending_back xs (record { ranks = o; left = l }) a in
    none (s.place, seen_at xs s.place s.outcome s.there ∙ ap (λ r. Some r) s.ranks)

-- with one outcome more all is as it has to be
pub found_more : (xs : List FoundOutcomeValue) (x : FoundOutcomeValue) (l : List Leftover) (old new : BTreeMap ℕ ℕ) (k v : ℕ) → AreFound xs old → x.left ≡ l ∷ []
    → HaveEntries (rank_outcomes xs ++ x.ranks ∷ []) new → (IsAmong (rank_outcomes xs) x.ranks → ⊥) → AreFound (xs ++ x ∷ []) new
found_more xs x l old new k v found e entries none =
    record {
      entries = subst (λ z. HaveEntries z new) (sym (seen_push xs x)) entries;
      distinct = subst AreDistinct (sym (seen_push xs x)) (distinct_push (rank_outcomes xs) x.ranks found.distinct none);
      some = λ i y there. some_of y (push_cases xs x i y there);
      once = λ i y there. once_of y (push_cases xs x i y there);
    }
  where
    some_of : {i : ℕ} (y : FoundOutcomeValue) → (slice_get xs i ≡ Some y) ⊎ ((i ≡ length xs) × (y ≡ x)) → (k : List Leftover) × IsAmong y.left k
    some_of {i} y (inl there) = found.some i y there
    some_of y (inr it) = (l, subst (λ z. IsAmong z l) (sym (ap (λ (z : FoundOutcomeValue). z.left) it.1 ∙ e)) (zero, refl))

    single : AreDistinct (l ∷ [])
    single zero zero z a b = refl
    single zero (suc j) z a b = absurd cc
    single (suc i) j z a b = absurd cc

    once_of : {i : ℕ} (y : FoundOutcomeValue) → (slice_get xs i ≡ Some y) ⊎ ((i ≡ length xs) × (y ≡ x)) → AreDistinct y.left
    once_of {i} y (inl there) = found.once i y there
    once_of y (inr it) = subst AreDistinct (sym (ap (λ (z : FoundOutcomeValue). z.left) it.1 ∙ e)) single

-- Leftovers that are added to an outcome

-- what is seen of the outcomes stays
seen_set : (xs : List FoundOutcomeValue) (i : ℕ) (x : FoundOutcomeValue) (l : List Leftover) → slice_get xs i ≡ Some x
    → rank_outcomes (slice_set xs i (and_left x l)) ≡ rank_outcomes xs
seen_set [] i x l e = refl
seen_set (y ∷ xs) zero x l e = (let same : y ≡ x = cc in ap (λ (z : FoundOutcomeValue). z.ranks ∷ rank_outcomes xs) (sym same))
seen_set (y ∷ xs) (suc i) x l e = ap (λ (z : List (List RankOutcome)). y.ranks ∷ z) (seen_set xs i x l e)

-- the ending is noted
noted_left : (place : ℕ) (o : List RankOutcome) (l : List Leftover) (old new : List FoundOutcomeValue) → slice_get (rank_outcomes old) place ≡ Some o
    → AddsLeft place l old new → Notes (endings_of old) (record { ranks = o; left = l }) (endings_of new)
unfolding with_left
noted_left place o l old new at adds = go adds.added
  where
    x : FoundOutcomeValue
    x = adds.outcome

    ranks : x.ranks ≡ o
    ranks = (let both : Some x.ranks ≡ Some o = sym (seen_at old place x adds.there) ∙ at in cc)

    go : (IsAmong x.left l × (new ≡ old)) ⊎ ((IsAmong x.left l → ⊥) × (new ≡ slice_set old place (and_left x l)))
        → Notes (endings_of old) (record { ranks = o; left = l }) (endings_of new)
    go (inl it) =
        subst (λ (z : List FoundOutcomeValue). Notes (endings_of old) (record { ranks = o; left = l }) (endings_of z)) (sym it.1)
        (record {
          kept = λ e a. a;
          noted = ending_of old place x (record { ranks = o; left = l }) adds.there ranks it.0;
          only = λ e a. inl a;
        })
    go (inr it) =
        subst (λ (z : List FoundOutcomeValue). Notes (endings_of old) (record { ranks = o; left = l }) (endings_of z)) (sym it.1)
        (record {
          kept = λ e a. kept e (ending_back old e a) (cases_eq (ending_back old e a).place place);
          noted = ending_of set place (and_left x l) (record { ranks = o; left = l }) here ranks (among_last x.left l);
          only = λ e a. only e (ending_back set e a) (set_cases old place (and_left x l) (ending_back set e a).place (ending_back set e a).outcome (ending_back set e a).there);
        })
      where
        set : List FoundOutcomeValue
        set = slice_set old place (and_left x l)

        here : slice_get set place ≡ Some (and_left x l)
        here = set_there old place (and_left x l) (slice_get_within old place x adds.there)

        kept : (e : Ending) (s : Stands old e) → (s.place ≡ place) ⊎ (s.place ≡ place → ⊥) → IsAmong (endings_of set) e
        kept e s (inl same) =
            let both : Some s.outcome ≡ Some x = sym s.there ∙ ap (λ i. slice_get old i) same ∙ adds.there in
            let one : s.outcome ≡ x = cc in
            ending_of set place (and_left x l) e here (ap (λ (z : FoundOutcomeValue). z.ranks) (sym one) ∙ s.ranks)
            (among_first x.left (l ∷ []) e.left (subst (λ (z : FoundOutcomeValue). IsAmong z.left e.left) one s.left))
        kept e s (inr apart) =
            ending_of set s.place s.outcome e (set_apart old place (and_left x l) s.place apart ∙ s.there) s.ranks s.left

        only : (e : Ending) (s : Stands set e)
            → ((place ≡ s.place) × (s.outcome ≡ and_left x l)) ⊎ ((place ≡ s.place → ⊥) × (slice_get old s.place ≡ Some s.outcome))
            → IsAmong (endings_of old) e ⊎ (e ≡ record { ranks = o; left = l })
        only e s (inl it') = one (among_push x.left l e.left (subst (λ (z : FoundOutcomeValue). IsAmong z.left e.left) it'.1 s.left))
          where
            same : x.ranks ≡ e.ranks
            same = ap (λ (z : FoundOutcomeValue). z.ranks) (sym it'.1) ∙ s.ranks

            one : IsAmong x.left e.left ⊎ (e.left ≡ l) → IsAmong (endings_of old) e ⊎ (e ≡ record { ranks = o; left = l })
            one (inl before) = inl (ending_of old place x e adds.there same before)
            one (inr is) = inr (let both : with_left e.ranks e.left ≡ with_left o l = rw (is, sym same ∙ ranks) refl in both)
        only e s (inr it') = inl (ending_of old s.place s.outcome e it'.1 s.ranks s.left)

-- and all is as it has to be
found_left : (place : ℕ) (l : List Leftover) (old new : List FoundOutcomeValue) (m : BTreeMap ℕ ℕ) → AreFound old m → AddsLeft place l old new
    → AreFound new m
found_left place l old new m found adds = go adds.added
  where
    x : FoundOutcomeValue
    x = adds.outcome

    go : (IsAmong x.left l × (new ≡ old)) ⊎ ((IsAmong x.left l → ⊥) × (new ≡ slice_set old place (and_left x l))) → AreFound new m
    go (inl it) = subst (λ (z : List FoundOutcomeValue). AreFound z m) (sym it.1) found
    go (inr it) =
        subst (λ (z : List FoundOutcomeValue). AreFound z m) (sym it.1)
        (record {
          entries = subst (λ z. HaveEntries z m) (sym (seen_set old place x l adds.there)) found.entries;
          distinct = subst AreDistinct (sym (seen_set old place x l adds.there)) found.distinct;
          some = λ i y there. some y (set_cases old place (and_left x l) i y there);
          once = λ i y there. once y (set_cases old place (and_left x l) i y there);
        })
      where
        some : {i : ℕ} (y : FoundOutcomeValue) → ((place ≡ i) × (y ≡ and_left x l)) ⊎ ((place ≡ i → ⊥) × (slice_get old i ≡ Some y))
            → (k : List Leftover) × IsAmong y.left k
        some y (inl is) = (l, subst (λ (z : FoundOutcomeValue). IsAmong z.left l) (sym is.1) (among_last x.left l))
        some {i} y (inr is) = found.some i y is.1

        once : {i : ℕ} (y : FoundOutcomeValue) → ((place ≡ i) × (y ≡ and_left x l)) ⊎ ((place ≡ i → ⊥) × (slice_get old i ≡ Some y)) → AreDistinct y.left
        once y (inl is) =
            subst (λ (z : FoundOutcomeValue). AreDistinct z.left) (sym is.1) (distinct_push x.left l (found.once place x adds.there) it.0)
        once {i} y (inr is) = found.once i y is.1

-- an outcome stands within them
pub place_within : (xs : List FoundOutcomeValue) (i : ℕ) (o : List RankOutcome) → slice_get (rank_outcomes xs) i ≡ Some o → i < length xs
place_within xs i o e = (let x = seen_back xs i o e in slice_get_within xs i x.0 x.1)

-- so it is if there was memory, and if there was none nothing changed
pub found_left_on : {T E : Type 0} (r : Result T E) (place : ℕ) (l : List Leftover) (old new : List FoundOutcomeValue) (m : BTreeMap ℕ ℕ) → AreFound old m
    → OnOk r (AddsLeft place l old new) → OnErr r (new ≡ old) → AreFound new m
found_left_on (Ok v) place l old new m found adds same = found_left place l old new m found adds
found_left_on (Err e) place l old new m found adds same = subst (λ (z : List FoundOutcomeValue). AreFound z m) (sym same) found

-- and then the ending is noted
pub noted_left_on : {T E : Type 0} (r : Result T E) (place : ℕ) (o : List RankOutcome) (l : List Leftover) (old new : List FoundOutcomeValue)
    → slice_get (rank_outcomes old) place ≡ Some o → OnOk r (AddsLeft place l old new)
    → OnOk r (Notes (endings_of old) (record { ranks = o; left = l }) (endings_of new))
noted_left_on (Ok v) place o l old new at adds = noted_left place o l old new at adds
noted_left_on (Err e) place o l old new at adds = tt

-- what stands at one place is one
pub one_there : {A : Type 0} (xs : List A) (i : ℕ) (x d y e : A) → i < length xs → x ≡ get_or xs i d → y ≡ get_or xs i e → x ≡ y
one_there xs i x d y e low is too =
    let both : Some x ≡ Some y =
    ap (λ z. Some z) is ∙ sym (slice_get-get_or xs i d low) ∙ slice_get-get_or xs i e low ∙ ap (λ z. Some z) (sym too) in
    cc

-- nothing is added to what has them
pub had_there : (place : ℕ) (l : List Leftover) (xs : List FoundOutcomeValue) (x d : FoundOutcomeValue) → place < length xs → x ≡ get_or xs place d
    → IsAmong x.left l → AddsLeft place l xs xs
had_there place l xs x d low is a =
    record { outcome = x; there = slice_get-get_or xs place d low ∙ ap (λ z. Some z) (sym is); added = inl (a, refl) }

-- and they are added to what hasn't
pub added_there : {T E : Type 0} (r : Result T E) (place : ℕ) (l : List Leftover) (xs : List FoundOutcomeValue) (x y d : FoundOutcomeValue) → place < length xs
    → x ≡ get_or xs place d → (IsAmong x.left l → ⊥) → OnOk r (y ≡ and_left x l) → OnOk r (AddsLeft place l xs (slice_set xs place y))
added_there (Ok v) place l xs x y d low is none added =
    record {
      outcome = x;
      there = slice_get-get_or xs place d low ∙ ap (λ z. Some z) (sym is);
      added = inr (none, ap (λ z. slice_set xs place z) added);
    }
added_there (Err e) place l xs x y d low is none added = tt

-- What stands in lists of one length

-- the leftovers of an outcome at a place are listed there
left_at : (xs : List FoundOutcomeValue) (i : ℕ) (x : FoundOutcomeValue) → slice_get xs i ≡ Some x → slice_get (listed_left xs) i ≡ Some x.left
left_at xs i x there = slice_get-map (λ (o : FoundOutcomeValue). o.left) xs i ∙ ap (option_map (λ (o : FoundOutcomeValue). o.left)) there

-- and what is listed there are those of one
left_back : (xs : List FoundOutcomeValue) (i : ℕ) (listed : List (List Leftover)) → slice_get (listed_left xs) i ≡ Some listed
    → (x : FoundOutcomeValue) × (slice_get xs i ≡ Some x) × (x.left ≡ listed)
left_back [] i listed e = absurd cc
left_back (x ∷ xs) zero listed e = (x, refl, cc)
left_back (x ∷ xs) (suc i) listed e = left_back xs i listed e

-- So the endings are those of the outcomes with what is listed of each.
pub are_grouped : (xs : List FoundOutcomeValue) (m : BTreeMap ℕ ℕ) → AreFound xs m → AreGrouped (endings_of xs) (rank_outcomes xs) (listed_left xs)
are_grouped xs m found =
    record {
      as_many = length-map xs (λ (o : FoundOutcomeValue). o.left) ∙ sym (length-map xs (λ (o : FoundOutcomeValue). o.ranks));
      there = there;
      each =
          λ e a.
          (let s = ending_back xs e a in
          (s.place, s.outcome.left, seen_at xs s.place s.outcome s.there ∙ ap (λ r. Some r) s.ranks, left_at xs s.place s.outcome s.there, s.left));
      some =
          λ o a.
          (let x = seen_back xs a.0 o a.1 in
          let some = found.some a.0 x.0 x.1 in
          (some.0, ending_of xs a.0 x.0 (record { ranks = o; left = some.0 }) x.1 x.2 some.1));
      distinct = found.distinct;
      once = λ i listed e. (let x = left_back xs i listed e in subst AreDistinct x.2 (found.once i x.0 x.1));
    }
  where
    there : (i : ℕ) (o : List RankOutcome) (listed : List (List Leftover)) (l : List Leftover) → slice_get (rank_outcomes xs) i ≡ Some o
        → slice_get (listed_left xs) i ≡ Some listed → IsAmong listed l → IsAmong (endings_of xs) (record { ranks = o; left = l })
    there i o listed l at listed_at a =
        let x = seen_back xs i o at in
        let both : Some x.0.left ≡ Some listed = sym (left_at xs i x.0 x.1) ∙ listed_at in
        let same : listed ≡ x.0.left = cc in
        ending_of xs i x.0 (record { ranks = o; left = l }) x.1 x.2 (subst (λ z. IsAmong z l) same a)
