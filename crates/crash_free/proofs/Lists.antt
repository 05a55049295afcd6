-- The lists that are made of a rank's acts, after one more act.
use Rattle.std.proofs.Common.{◌≡◌, ℕ, ℤ, zero, suc, ◌+◌, ◌<◌, ◌≤◌, Bool, true, false, ◌==◌, ◌||◌, List, [], ◌∷◌, ◌++◌, Option, Some, length, refl}
use Rattle.std.proofs.Common.{sym, ap, ◌∙◌, arith, slice_get, get_or, take, reverse, ◌⊎◌, inl, inr}
use Rattle.std.proofs.lemmas.Bool.{eq-eqb, ne_eqb}
use Rattle.std.proofs.lemmas.List.{length-reverse, length-take-le, reverse-append, take_more}
use Rattle.std.proofs.lemmas.Option.{slice_get_within, slice_get-get_or}
use Rattle.rank_machine.specs.Acts.{Act, Message, sends, takes, hits, misses, prints}
use Rattle.rank_machine.specs.States.{State}
use Rattle.rank_machine.proofs.CollectiveParts.{longer_at}
use Rattle.crash_free.specs.Runs.{Passed, History, at_place, history, sent, printed, sends_from, send_at, prints_from, print_at, cons_if}
use Rattle.crash_free.specs.Runs.{looked_up, taken, takes_it, IsRun}

-- where a place is within a list something stands there
pub there_is : {A : Type 0} (xs : List A) (i : ℕ) → i < length xs → (x : A) × (slice_get xs i ≡ Some x)
there_is [] i low = absurd (omega arith)
there_is (x ∷ xs) zero low = (x, refl)
there_is (x ∷ xs) (suc i) low = there_is xs i (omega arith)

-- what stands in a longer list, before something of the shorter one, stands in the shorter one
slice_get-append_before : {A : Type 0} (xs ys : List A) (i j : ℕ) (x y : A) → i < j → slice_get xs j ≡ Some y → slice_get (xs ++ ys) i ≡ Some x
    → slice_get xs i ≡ Some x
slice_get-append_before [] ys i j x y l e f = cc
slice_get-append_before (z ∷ xs) ys zero j x y l e f = f
slice_get-append_before (z ∷ xs) ys (suc i) zero x y l e f = absurd (omega arith)
slice_get-append_before (z ∷ xs) ys (suc i) (suc j) x y l e f = slice_get-append_before xs ys i j x y (omega arith) e f

-- the same of places
pub at_place-append : {A : Type 0} (xs ys : List A) (i : ℕ) (x : A) → at_place xs i ≡ Some x → at_place (xs ++ ys) i ≡ Some x
at_place-append xs ys zero x e = absurd cc
at_place-append xs ys (suc i) x e = longer_at xs ys i x e

-- and of places before something of the shorter list
pub at_place-append_before : {A : Type 0} (xs ys : List A) (i j : ℕ) (x y : A) → i < j → at_place xs j ≡ Some y → at_place (xs ++ ys) i ≡ Some x
    → at_place xs i ≡ Some x
at_place-append_before xs ys zero j x y l e f = absurd cc
at_place-append_before xs ys (suc i) zero x y l e f = absurd (omega arith)
at_place-append_before xs ys (suc i) (suc j) x y l e f = slice_get-append_before xs ys i j x y (omega arith) e f

-- what is read at an index stands there
pub stands_at : {A : Type 0} (xs : List A) (index : ℕ) (x d : A) → index < length xs → x ≡ get_or xs index d → slice_get xs index ≡ Some x
stands_at xs index x d low is = slice_get-get_or xs index d low ∙ ap Some (sym is)

-- as many stand before an index as it says
pub as_many_before : {A : Type 0} (xs : List A) (index : ℕ) → index ≤ length xs → length (reverse (take index xs)) ≡ index
as_many_before xs index low = length-reverse (take index xs) ∙ length-take-le index xs low

-- the first of a list, the last of them first, with one more
pub one_more : {A : Type 0} (xs : List A) (index : ℕ) (x : A) → slice_get xs index ≡ Some x → reverse (take (index + 1) xs) ≡ x ∷ reverse (take index xs)
one_more xs index x there =
    let within = slice_get_within xs index x there in
    let both : Some (get_or xs index x) ≡ Some x = sym (slice_get-get_or xs index x within) ∙ there in
    let is : get_or xs index x ≡ x = cc in
    ap reverse (take_more xs index x within ∙ ap (λ z. take index xs ++ z ∷ []) is) ∙ reverse-append (take index xs) (x ∷ [])

-- what stands in a list with one more element stood there before, or is that element
pub push_cases : {A : Type 0} (xs : List A) (y : A) (k : ℕ) (x : A) → slice_get (xs ++ y ∷ []) k ≡ Some x
    → (slice_get xs k ≡ Some x) ⊎ ((k ≡ length xs) × (x ≡ y))
push_cases [] y zero x e = inr (refl, cc)
push_cases [] y (suc k) x e = absurd cc
push_cases (z ∷ xs) y zero x e = inl e
push_cases (z ∷ xs) y (suc k) x e = more (push_cases xs y k x e)
  where
    more : (slice_get xs k ≡ Some x) ⊎ ((k ≡ length xs) × (x ≡ y)) → (slice_get xs k ≡ Some x) ⊎ ((suc k ≡ suc (length xs)) × (x ≡ y))
    more (inl h) = inl h
    more (inr h) = inr (ap suc h.0, h.1)

-- what is put in front of two lists together is put in front of the first
cons_if-append : {A : Type 0} (b : Bool) (x : A) (xs ys : List A) → cons_if b x (xs ++ ys) ≡ cons_if b x xs ++ ys
cons_if-append true x xs ys = refl
cons_if-append false x xs ys = refl

-- so is what an act sends
pub send_at-append : (c r : ℕ) (a : Act) (xs ys : List Message) → send_at c r a (xs ++ ys) ≡ send_at c r a xs ++ ys
send_at-append c r (sends d context t items) xs ys = cons_if-append (d == r) _ xs ys
send_at-append c r (takes s j) xs ys = refl
send_at-append c r (hits s j) xs ys = refl
send_at-append c r misses xs ys = refl
send_at-append c r (prints v) xs ys = refl

-- and what it prints
print_at-append : (c : ℕ) (a : Act) (xs ys : List (ℕ × ℤ)) → print_at c a (xs ++ ys) ≡ print_at c a xs ++ ys
print_at-append c (sends d context t items) xs ys = refl
print_at-append c (takes s j) xs ys = refl
print_at-append c (hits s j) xs ys = refl
print_at-append c misses xs ys = refl
print_at-append c (prints v) xs ys = refl

-- what was sent, after one more act
pub sends_from-push : (k r : ℕ) (h : History) (x : Act × Option Message)
    → sends_from k r (h ++ x ∷ []) ≡ sends_from k r h ++ send_at (k + length h + 1) r x.0 []
sends_from-push k r [] x =
    let e : k + 1 ≡ k + 0 + 1 = omega arith in
    rw e refl
sends_from-push k r (y ∷ h) x =
    let e : k + 1 + length h + 1 ≡ k + suc (length h) + 1 = omega arith in
    rw (sends_from-push (k + 1) r h x, e) (send_at-append (k + 1) r y.0 _ _)

-- what was printed, after one more act
pub prints_from-push : (k : ℕ) (h : History) (x : Act × Option Message) → prints_from k (h ++ x ∷ []) ≡ prints_from k h ++ print_at (k + length h + 1) x.0 []
prints_from-push k [] x =
    let e : k + 1 ≡ k + 0 + 1 = omega arith in
    rw e refl
prints_from-push k (y ∷ h) x =
    let e : k + 1 + length h + 1 ≡ k + suc (length h) + 1 = omega arith in
    rw (prints_from-push (k + 1) h x, e) (print_at-append (k + 1) y.0 _ _)

-- what is taken, after one more act
pub taken-push : (h : History) (x : Act × Option Message) (s j : ℕ) → taken (h ++ x ∷ []) s j ≡ taken h s j || takes_it s j x.0
taken-push [] x s j = grind arith
taken-push (y ∷ h) x s j = rw (taken-push h x s j) (or_swap (takes_it s j y.0) (taken h s j) (takes_it s j x.0))
  where
    or_swap : (a b c : Bool) → (a || (b || c)) ≡ ((a || b) || c)
    or_swap true b c = refl
    or_swap false b c = refl

-- the history of the rank that makes an act
pub history-own : (C : List Passed) (r : ℕ) (a : Act) → history (record { rank = r; act = a } ∷ C) r ≡ history C r ++ (a, looked_up (λ s. sent C s r) a) ∷ []
history-own C r a = rw (eq-eqb r r refl) refl

-- the histories of the other ranks stay
pub history-other : (C : List Passed) (p : Passed) (r : ℕ) → (p.rank ≡ r → ⊥) → history (p ∷ C) r ≡ history C r
history-other C p r ne = rw (ne_eqb p.rank r ne) refl

-- what the rank that makes an act has sent
pub sent-own : (C : List Passed) (r d : ℕ) (a : Act) → sent (record { rank = r; act = a } ∷ C) r d ≡ sent C r d ++ send_at (length (history C r) + 1) d a []
sent-own C r d a =
    ap (λ h. sends_from 0 d h) (history-own C r a) ∙ sends_from-push 0 d (history C r) (a, looked_up (λ s. sent C s r) a)
    ∙ (let z : 0 + length (history C r) ≡ length (history C r) = omega arith in rw z refl)

-- what the other ranks have sent stays
pub sent-other : (C : List Passed) (p : Passed) (s d : ℕ) → (p.rank ≡ s → ⊥) → sent (p ∷ C) s d ≡ sent C s d
sent-other C p s d ne = ap (λ h. sends_from 0 d h) (history-other C p s ne)

-- what the rank that makes an act has printed
pub printed-own : (C : List Passed) (r : ℕ) (a : Act) → printed (record { rank = r; act = a } ∷ C) r ≡ printed C r ++ print_at (length (history C r) + 1) a []
printed-own C r a =
    ap (λ h. prints_from 0 h) (history-own C r a) ∙ prints_from-push 0 (history C r) (a, looked_up (λ s. sent C s r) a)
    ∙ (let z : 0 + length (history C r) ≡ length (history C r) = omega arith in rw z refl)

-- what the other ranks have printed stays
pub printed-other : (C : List Passed) (p : Passed) (q : ℕ) → (p.rank ≡ q → ⊥) → printed (p ∷ C) q ≡ printed C q
printed-other C p q ne = ap (λ h. prints_from 0 h) (history-other C p q ne)

-- the first part of a run is a run
pub run_begins : (start : ℕ → State) (n : ℕ) (late early : List Passed) → IsRun start n (late ++ early) → IsRun start n early
run_begins start n [] early run = run
run_begins start n (p ∷ late) early run = run_begins start n late early run.0
