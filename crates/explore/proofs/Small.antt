-- How many runs a search needs to look at.
use Rattle.std.proofs.Common.{◌≡◌, ℕ, zero, suc, ◌+◌, ◌<◌, ◌≤◌, List, [], ◌∷◌, ◌++◌, Some, length, slice_get, ◌⊎◌, inl, inr, refl, sym, ap, subst, arith}
use Rattle.std.specs.Prelude.{sum_by}
use Rattle.std.proofs.lemmas.Bool.{cases_eq}
use Rattle.std.proofs.lemmas.Option.{slice_get_within, get_or_from_slice_get}
use Rattle.std.proofs.lemmas.List.Sums.{sum_by-cons, sum_by-append, get_or-le-sum_by}
use Rattle.rank_language.specs.Program.{ProgramValue}
use Rattle.rank_machine.specs.States.{State}
use Rattle.rank_machine.specs.Acts.{Act}
use Rattle.crash_free.specs.Runs.{Passed, history, sent, MayMake}
use Rattle.crash_free.specs.Sim.{SimValue, choice_of, start_of}
use Rattle.crash_free.specs.Parts.{IsPartOf}
use Rattle.crash_free.proofs.Lists.{history-other}
use Rattle.crash_free.proofs.Reorder.{history_grows}
use Rattle.explore.specs.Sending.{MayFollowUnder}
use Rattle.explore.specs.Exploring.{and_then, IsFixed}
use Rattle.explore.specs.Moves.{move_of}
use Rattle.explore.specs.Outcomes.{IsAmong, AreDistinct}
use Rattle.explore.specs.Searching.{IsAlike}
use Rattle.explore.specs.Stems.{Stem, IsRunOf}
use Rattle.explore.specs.Small.{AreEnough, at_once, tree, EnoughFor, EnoughForAll, KeepsEnough}
use Rattle.explore.proofs.Among.{among_none}
use Rattle.explore.proofs.Fixed.{same_act}
use Rattle.explore.proofs.Exploring.{both_ways, follows_both, part_of_same}
use Rattle.explore.proofs.Ending.{fixed_still, swapped}
use Rattle.explore.specs.declared.send_mode.SendMode.{SendMode}

-- Sums

-- a list at a place where an element stands
split_at : {A : Type 0} (ys : List A) (x : A) → IsAmong ys x → (front : List A) × (back : List A) × (ys ≡ front ++ x ∷ back)
split_at ys x a = go ys a.0 a.1
  where
    go : (zs : List _) (i : ℕ) → slice_get zs i ≡ Some x → (front : List _) × (back : List _) × (zs ≡ front ++ x ∷ back)
    go [] i e = absurd (among_none x (i, e))
    go (z ∷ zs) zero e =
        let it : z ≡ x = cc in
        ([], zs, ap (λ y. y ∷ zs) it)
    go (z ∷ zs) (suc i) e = (let rest = go zs i e in (z ∷ rest.0, rest.1, ap (λ l. z ∷ l) rest.2))

-- what is among some with one in their midst, and isn't that one, is among those without it
among_without : {A : Type 0} (front back : List A) (x y : A) → (y ≡ x → ⊥) → IsAmong (front ++ x ∷ back) y → IsAmong (front ++ back) y
among_without front back x y apart a = go front a.0 a.1
  where
    go : (zs : List _) (i : ℕ) → slice_get (zs ++ x ∷ back) i ≡ Some y → IsAmong (zs ++ back) y
    go [] zero e = absurd (apart (let it : x ≡ y = cc in sym it))
    go [] (suc i) e = (i, e)
    go (z ∷ zs) zero e = (zero, e)
    go (z ∷ zs) (suc i) e = (let more = go zs i e in (suc more.0, more.1))

-- the sum over some that are distinct is no more than over others that have each of them
pub sum_some : {A : Type 0} (f : A → ℕ) (xs ys : List A) → AreDistinct xs → ((x : A) → IsAmong xs x → IsAmong ys x) → sum_by f xs ≤ sum_by f ys
sum_some f [] ys distinct each = omega arith
sum_some f (x ∷ xs) ys distinct each =
    go (λ zs each'. sum_some f xs zs (λ i j y p q. (let one : suc i ≡ suc j = distinct (suc i) (suc j) y p q in omega (arith, one))) each')
    (split_at ys x (each x (zero, refl)))
  where
    new : (y : _) → IsAmong xs y → y ≡ x → ⊥
    new y a e =
        let one : zero ≡ suc a.0 = distinct zero (suc a.0) y (ap Some (sym e)) a.1 in
        omega (arith, one)

    go : ((zs : List _) → ((y : _) → IsAmong xs y → IsAmong zs y) → sum_by f xs ≤ sum_by f zs)
        → (front : List _) × (back : List _) × (ys ≡ front ++ x ∷ back) → sum_by f (x ∷ xs) ≤ sum_by f ys
    go fewer s =
        let rest = fewer (s.0 ++ s.1) (λ y a. among_without s.0 s.1 x y (new y a) (subst (λ l. IsAmong l y) s.2 (each y (suc a.0, a.1)))) in
        let one = sum_by-cons f x xs in
        let two = ap (sum_by f) s.2 in
        let three = sum_by-append f s.0 (x ∷ s.1) in
        let four = sum_by-cons f x s.1 in
        let five = sum_by-append f s.0 s.1 in
        omega (arith, rest, one, two, three, four, five)

-- what one of them has is no more than they have together
one_of : {A : Type 0} (f : A → ℕ) (xs : List A) (x : A) → IsAmong xs x → f x ≤ sum_by f xs
one_of f xs x a =
    let low = slice_get_within xs a.0 x a.1 in
    subst (λ y. f y ≤ sum_by f xs) (get_or_from_slice_get xs a.0 x x a.1) (get_or-le-sum_by f xs a.0 x low)

-- Runs that are enough

-- there is one at least
pub one_enough : (mode : SendMode) → (start : ℕ → State) (n k : ℕ) (P : List Passed) → AreEnough mode start n k P → 0 < k
one_enough mode start n k P (at_once r act fix rest) = one_enough mode start n k (and_then P r act) rest
one_enough mode start n k P (tree moves needs among each few some) = some

-- more are enough too
more_enough : (mode : SendMode) → (start : ℕ → State) (n k l : ℕ) (P : List Passed) → k ≤ l → AreEnough mode start n k P → AreEnough mode start n l P
more_enough mode start n k l P low (at_once r act fix rest) = at_once r act fix (more_enough mode start n k l (and_then P r act) low rest)
more_enough mode start n k l P low (tree moves needs among each few some) = tree moves needs among each (omega (arith, low, few)) (omega (arith, low, some))

-- runs with the same histories need the same
same_enough : (mode : SendMode) → (start : ℕ → State) (n k : ℕ) (D C : List Passed) → AreEnough mode start n k D → IsPartOf C D → IsPartOf D C → AreEnough mode start n k C
same_enough mode start n k D C (at_once r act fix rest) part back =
    let same : history C r ≡ history D r = both_ways (history C r) (history D r) (part r) (back r) in
    let here = follows_both mode start n D C r act back same (fix.low, fix.may, fix.released) in
    let there = follows_both mode start n C D r act part (sym same) here.0 in
    at_once r act (fixed_still mode start n D C r act back same fix) (same_enough mode start n k (and_then D r act) (and_then C r act) rest there.1 here.1)
same_enough mode start n k D C (tree moves needs among each few some) part back =
    tree moves needs (λ r act may. among r act (follows_both mode start n C D r act part (same r) may).0)
    (λ r act may.
    (let there = follows_both mode start n C D r act part (same r) may in
    let here = follows_both mode start n D C r act back (sym (same r)) there.0 in
    same_enough mode start n (needs (move_of r (choice_of act))) (and_then D r act) (and_then C r act) (each r act there.0) there.1 here.1))
    few some
  where
    same : (r : ℕ) → history D r ≡ history C r
    same r = both_ways (history D r) (history C r) (back r) (part r)

-- as many are once a fixed act was made, whichever act the search makes first
pub fixed_enough : (mode : SendMode) → (start : ℕ → State) (n k : ℕ) (C : List Passed) (r : ℕ) (act : Act) → IsFixed mode start n C r act → AreEnough mode start n k C
    → AreEnough mode start n k (and_then C r act)
fixed_enough mode start n k C r act fix (tree moves needs among each few some) =
    let may : MayFollowUnder mode start n C r act = (fix.low, fix.may, fix.released) in
    let here = one_of needs moves (move_of r (choice_of act)) (among r act may) in
    more_enough mode start n (needs (move_of r (choice_of act))) k (and_then C r act) (omega (arith, here, few)) (each r act may)
fixed_enough mode start n k C r act fix (at_once q b fix' rest) =
    go (λ fix''. fixed_enough mode start n k (and_then C q b) r act fix'' rest) (cases_eq r q)
  where
    go : (IsFixed mode start n (and_then C q b) r act → AreEnough mode start n k (and_then (and_then C q b) r act)) → (r ≡ q) ⊎ (r ≡ q → ⊥)
        → AreEnough mode start n k (and_then C r act)
    go more (inl e) =
        let own : MayMake (start r) (λ s. sent C s r) (history C r) b = subst (λ z. MayMake (start z) (λ s. sent C s z) (history C z) b) (sym e) fix'.may in
        let same : act ≡ b = same_act (start r) (λ s. sent C s r) (history C r) act b fix.may own fix.one in
        let run : and_then C r act ≡ and_then C q b = rw (same, e) refl in
        subst (λ B. AreEnough mode start n k B) (sym run) rest
    go more (inr ne) =
        let own : history (and_then C q b) r ≡ history C r = history-other C (record { rank = q; act = b }) r (λ d. ne (sym d)) in
        let other : history (and_then C r act) q ≡ history C q = history-other C (record { rank = r; act = act }) q ne in
        let here = more (fixed_still mode start n C (and_then C q b) r act (λ z. history_grows C (record { rank = q; act = b }) z) own fix) in
        let swap = swapped mode start n C r q act b ne (fix.low, fix.may, fix.released) (fix'.low, fix'.may, fix'.released) in
        at_once q b (fixed_still mode start n C (and_then C r act) q b (λ z. history_grows C (record { rank = r; act = act }) z) other fix')
        (same_enough mode start n k (and_then (and_then C q b) r act) (and_then (and_then C r act) q b) here
        (part_of_same (and_then (and_then C r act) q b) (and_then (and_then C q b) r act) (λ z. sym (swap z)))
        (part_of_same (and_then (and_then C q b) r act) (and_then (and_then C r act) q b) swap))

-- what is enough for the ranks of one simulation is for those of another of the same program
pub enough_by : (mode : SendMode) → (s s' : SimValue) (k : ℕ) (P : List Passed) → IsAlike s s' → EnoughFor mode s' k P → EnoughFor mode s k P
enough_by mode s s' k P alike x =
    subst (λ n. AreEnough mode (start_of s.program n) n k P) alike.ranks
    (subst (λ p. AreEnough mode (start_of p (length s'.machines)) (length s'.machines) k P) alike.program x)

-- and for all stems
pub all_by : (mode : SendMode) → (s s' : SimValue) (k : ℕ) (xs : List Stem) → IsAlike s s' → EnoughForAll mode s'.program (length s'.machines) k xs
    → EnoughForAll mode s.program (length s.machines) k xs
all_by mode s s' k xs alike x =
    subst (λ n. EnoughForAll mode s.program n k xs) alike.ranks (subst (λ p. EnoughForAll mode p (length s'.machines) k xs) alike.program x)

-- What is left

-- more are enough for all too
pub all_more : (mode : SendMode) → (program : ProgramValue) (n j k : ℕ) (xs : List Stem) → j ≤ k → EnoughForAll mode program n j xs → EnoughForAll mode program n k xs
all_more mode program n j k [] low e = tt
all_more mode program n j k (x ∷ xs) low e = (e.0, e.1, e.2, e.3, e.4, (let few = e.5 in omega (arith, low, few)))

-- with one more stem
pub all_push : (mode : SendMode) → (program : ProgramValue) (n j k : ℕ) (xs : List Stem) (y : Stem) → EnoughForAll mode program n j xs → 0 < k
    → ((P : List Passed) → IsRunOf mode program n y P → AreEnough mode (start_of program n) n k P) → EnoughForAll mode program n (j + k) (xs ++ y ∷ [])
all_push mode program n j k [] y e some one = (k, zero, some, one, tt, omega arith)
all_push mode program n j k (x ∷ xs) y e some one =
    (e.0, e.1 + k, e.2, e.3, all_push mode program n e.1 k xs y e.4 some one, (let few = e.5 in omega (arith, few)))

-- and without the last one
pub all_pop : (mode : SendMode) → (program : ProgramValue) (n k : ℕ) (xs : List Stem) (y : Stem) → EnoughForAll mode program n k (xs ++ y ∷ [])
    → (i : ℕ) × (l : ℕ) × EnoughForAll mode program n i xs × (0 < l) × ((P : List Passed) → IsRunOf mode program n y P → AreEnough mode (start_of program n) n l P)
    × (i + l ≤ k)
all_pop mode program n k [] y e = (zero, e.0, tt, e.2, e.3, (let few = e.5 in omega (arith, few)))
all_pop mode program n k (x ∷ xs) y e =
    let rest = all_pop mode program n e.1 xs y e.4 in
    let few = e.5 in
    let less = rest.5 in
    (e.0 + rest.0, rest.1, (e.0, rest.0, e.2, e.3, rest.2, omega arith), rest.3, rest.4, omega (arith, few, less))

-- no run is enough for nothing alone
pub all_none : (mode : SendMode) → (program : ProgramValue) (n : ℕ) (xs : List Stem) → EnoughForAll mode program n 0 xs → xs ≡ []
all_none mode program n [] e = refl
all_none mode program n (x ∷ xs) e = absurd (let some = e.2 in let few = e.5 in omega (arith, some, few))

-- before the first step
pub keeps_nothing : (mode : SendMode) → (s : SimValue) (pending : List Stem) → KeepsEnough mode s pending s pending
keeps_nothing mode s pending j k before here = (j, k, before, here, omega arith)
