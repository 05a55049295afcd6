-- The lines of a console after one more print.
use Rattle.std.proofs.Common.{◌≡◌, ℕ, ℤ, ◌+◌, ◌≤◌, ◌⊎◌, inl, inr, Bool, true, false, not, ◌==◌, ◌||◌, ◌&&◌, List, [], ◌∷◌, ◌++◌, length, refl, sym}
use Rattle.std.proofs.Common.{ap, subst, ◌∙◌, arith, if◌then◌else◌}
use Rattle.std.proofs.lemmas.Bool.{eq-eqb, ne_eqb, cases_eq, lt-ltb}
use Rattle.std.proofs.lemmas.List.{append-nil}
use Rattle.matching.specs.declared.line.Line.{Line}
use Rattle.ports.specs.Console.{is_new, after_line}
use Rattle.rank_machine.specs.Acts.{Act, sends, takes, hits, misses, prints}
use Rattle.crash_free.specs.Runs.{Passed, History, cons_if, history, printed, prints_from, print_at}
use Rattle.crash_free.proofs.Lists.{printed-own, printed-other}
use Rattle.audit.proofs.Sorting.{lines_of-push}
use Rattle.bare_world.specs.Headline.{lines_of}

-- each clock is at most this
AtMost : ℕ → List (ℕ × ℤ) → Type 0
AtMost n [] = Unit {0}
AtMost n (x ∷ xs) = (x.0 ≤ n) × AtMost n xs

-- what is at most n is at most each greater number
AtMost-more : (n m : ℕ) (xs : List (ℕ × ℤ)) → n ≤ m → AtMost n xs → AtMost m xs
unfolding AtMost
AtMost-more n m [] l a = tt
AtMost-more n m (x ∷ xs) l a = (let z : x.0 ≤ n = a.0 in omega arith, AtMost-more n m xs l a.1)

-- what a rank printed has clocks of its acts
print_at-low : (k n : ℕ) (a : Act) (xs : List (ℕ × ℤ)) → k + 1 ≤ n → AtMost n xs → AtMost n (print_at (k + 1) a xs)
unfolding AtMost
print_at-low k n (prints v) xs l a = (l, a)
print_at-low k n (sends d c t items) xs l a = a
print_at-low k n (takes s j) xs l a = a
print_at-low k n (hits s j) xs l a = a
print_at-low k n misses xs l a = a

-- no line of a history has a clock above that of its last act
prints_low : (k n : ℕ) (h : History) → k + length h ≤ n → AtMost n (prints_from k h)
unfolding AtMost
prints_low k n [] l = tt
prints_low k n (x ∷ h) l = print_at-low k n x.0 (prints_from (k + 1) h) (omega arith) (prints_low (k + 1) n h (omega arith))

-- the test of a line that comes before holds where its clock is lower, be it of this rank or not
or_true : (b : Bool) → (b || true) && true ≡ true
or_true true = refl
or_true false = refl

-- where the clocks of a rank's lines are at most this, a line with the next clock is new
new_above : (r n : ℕ) (lines : List Line) → AtMost n (lines_of r lines) → is_new lines r (n + 1) ≡ true
unfolding AtMost
new_above r n [] a = refl
new_above r n (x ∷ lines) a = go (λ b. new_above r n lines b) (cases_eq x.rank r)
  where
    go : (AtMost n (lines_of r lines) → is_new lines r (n + 1) ≡ true) → (x.rank ≡ r) ⊎ (x.rank ≡ r → ⊥) → is_new (x ∷ lines) r (n + 1) ≡ true
    go rest (inl e) =
        let b : AtMost n (cons_if true (x.clock, x.value) (lines_of r lines)) = rw (eq-eqb x.rank r e) at a in
        let low : x.clock ≤ n = b.0 in
        rw (lt-ltb x.clock (n + 1) (omega arith), rest b.1) (or_true (not (x.rank == r)))
    go rest (inr ne) =
        let b : AtMost n (lines_of r lines) = rw (ne_eqb x.rank r ne) at a in
        rw (ne_eqb x.rank r ne, rest b) refl

-- a print that passes is shown
pub lines_after_print : (lines : List Line) (C : List Passed) (r c : ℕ) (value : ℤ) → c ≡ length (history C r) → ((q : ℕ) → lines_of q lines ≡ printed C q)
    → (q : ℕ) → lines_of q (after_line lines r (c + 1) value) ≡ printed (record { rank = r; act = prints value } ∷ C) q
lines_after_print lines C r c value all had q =
    ap (λ b. lines_of q (if b then lines ++ record { rank = r; clock = c + 1; value = value } ∷ [] else lines)) new
    ∙ lines_of-push q lines (record { rank = r; clock = c + 1; value = value }) ∙ go (cases_eq r q)
  where
    low : AtMost c (lines_of r lines)
    low = subst (λ z. AtMost c z) (sym (had r)) (prints_low 0 c (history C r) (omega (arith, all)))

    new : is_new lines r (c + 1) ≡ true
    new = new_above r c lines low

    own : printed (record { rank = r; act = prints value } ∷ C) r ≡ printed C r ++ (c + 1, value) ∷ []
    own = printed-own C r (prints value) ∙ ap (λ z. printed C r ++ (z + 1, value) ∷ []) (sym all)

    go : (r ≡ q) ⊎ (r ≡ q → ⊥) → lines_of q lines ++ cons_if (r == q) (c + 1, value) [] ≡ printed (record { rank = r; act = prints value } ∷ C) q
    go (inr ne) =
        ap (λ b. lines_of q lines ++ cons_if b (c + 1, value) []) (ne_eqb r q ne) ∙ append-nil _ ∙ had q
        ∙ sym (printed-other C (record { rank = r; act = prints value }) q ne)
    go (inl e) =
        ap (λ b. lines_of q lines ++ cons_if b (c + 1, value) []) (eq-eqb r q e)
        ∙ ap (λ z. z ++ (c + 1, value) ∷ []) (had q)
        ∙ sym (subst (λ z. printed (record { rank = r; act = prints value } ∷ C) z ≡ printed C z ++ (c + 1, value) ∷ []) e own)

-- an act that prints nothing leaves what was printed
pub printed_same : (C : List Passed) (r q : ℕ) (a : Act) → print_at (length (history C r) + 1) a [] ≡ []
    → printed (record { rank = r; act = a } ∷ C) q ≡ printed C q
printed_same C r q a none = go (cases_eq r q)
  where
    own : printed (record { rank = r; act = a } ∷ C) r ≡ printed C r
    own = printed-own C r a ∙ ap (λ z. printed C r ++ z) none ∙ append-nil _

    go : (r ≡ q) ⊎ (r ≡ q → ⊥) → printed (record { rank = r; act = a } ∷ C) q ≡ printed C q
    go (inl e) = subst (λ z. printed (record { rank = r; act = a } ∷ C) z ≡ printed C z) e own
    go (inr ne) = printed-other C (record { rank = r; act = a }) q ne
