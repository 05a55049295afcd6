-- A send or a print that is made again passes no second time.
use Rattle.std.proofs.Common.{◌≡◌, ℕ, ℤ, zero, suc, ◌+◌, ◌<◌, ◌⊎◌, inl, inr, Bool, true, false, ◌==◌, ◌||◌, ◌&&◌, not, nat_lt}
use Rattle.std.proofs.Common.{if◌then◌else◌, List, [], ◌∷◌, ◌++◌, Option, Some, None, length, refl, sym, ap, subst, ◌∙◌, arith}
use Rattle.std.proofs.Common.{slice_get}
use Rattle.std.proofs.lemmas.Bool.{le-ltb, le-leb, lt-leb, eq-eqb, ne_eqb, cases_eq}
use Rattle.matching.specs.declared.line.Line.{Line}
use Rattle.ports.specs.Console.{is_new, after_line}
use Rattle.rank_machine.specs.Acts.{Act, Message, sends, takes, hits, misses, prints}
use Rattle.crash_free.specs.Runs.{Passed, History, history, prints_from, print_at, printed, cons_if}
use Rattle.bare_world.specs.Headline.{lines_of}
use Rattle.bare_world.specs.Follows.{passed_at}

-- an act that is in the run passes no second time
pub passed_again : (C : List Passed) (r c : ℕ) (o : Option Act) → c < length (history C r) → passed_at C r (c + 1) o ≡ C
passed_again C r c None l = refl
passed_again C r c (Some a) l = ap (λ b. if b then C else record { rank = r; act = a } ∷ C) (le-leb (c + 1) (length (history C r)) (omega arith))

-- the next act passes
pub passed_first : (C : List Passed) (r c : ℕ) (a : Act) → c ≡ length (history C r) → passed_at C r (c + 1) (Some a) ≡ record { rank = r; act = a } ∷ C
passed_first C r c a all = ap (λ b. if b then C else record { rank = r; act = a } ∷ C) (lt-leb (c + 1) (length (history C r)) (omega (arith, all)))

-- what was printed is among the lines
print_there : (k c : ℕ) (h : History) (x : ℤ) (o : Option Message) → slice_get h c ≡ Some (prints x, o)
    → (i : ℕ) × (slice_get (prints_from k h) i ≡ Some (k + c + 1, x))
print_there k c [] x o e = absurd cc
print_there k zero (y ∷ h) x o e =
    let q : y ≡ (prints x, o) = cc in
    let p : prints_from k (y ∷ h) ≡ (k + 1, x) ∷ prints_from (k + 1) h = ap (λ z. print_at (k + 1) z.0 (prints_from (k + 1) h)) q in
    (0, ap (λ z. slice_get z 0) p ∙ (let z : k + 1 ≡ k + 0 + 1 = omega arith in ap (λ y. Some (y, x)) z))
print_there k (suc c) (y ∷ h) x o e =
    let i = print_there (k + 1) c h x o e in
    let z : k + 1 + c + 1 ≡ k + suc c + 1 = omega arith in
    after y.0 i.0 (i.1 ∙ ap (λ j. Some (j, x)) z)
  where
    after : (a : Act) (i : ℕ) → slice_get (prints_from (k + 1) h) i ≡ Some (k + suc c + 1, x)
        → (j : ℕ) × (slice_get (print_at (k + 1) a (prints_from (k + 1) h)) j ≡ Some (k + suc c + 1, x))
    after (prints v) i f = (suc i, f)
    after (sends d t y z) i f = (i, f)
    after (takes s j) i f = (i, f)
    after (hits s j) i f = (i, f)
    after misses i f = (i, f)

-- a line with a clock that the list has for the rank isn't new
line_again : (r c i : ℕ) (x : ℤ) (lines : List Line) → slice_get (lines_of r lines) i ≡ Some (c, x) → is_new lines r c ≡ false
line_again r c i x [] e = absurd cc
line_again r c i x (y ∷ lines) e = go (cases_eq y.rank r) (λ j f. line_again r c j x lines f)
  where
    or_false : (b : Bool) → (b && false) ≡ false
    or_false true = refl
    or_false false = refl

    first : (j : ℕ) → slice_get ((y.clock, y.value) ∷ lines_of r lines) j ≡ Some (c, x)
        → ((j : ℕ) → slice_get (lines_of r lines) j ≡ Some (c, x) → is_new lines r c ≡ false) → y.rank ≡ r → is_new (y ∷ lines) r c ≡ false
    first zero f rest q =
        let both : ◌≡◌ {A = ℕ × ℤ} (y.clock, y.value) (c, x) = cc in
        let ec : y.clock ≡ c = ap (λ z. z.0) both in
        rw (eq-eqb y.rank r q, le-ltb y.clock c (omega (arith, ec))) refl
    first (suc j) f rest q = rw (rest j f) (or_false (not (y.rank == r) || nat_lt y.clock c))

    go : (y.rank ≡ r) ⊎ (y.rank ≡ r → ⊥) → ((j : ℕ) → slice_get (lines_of r lines) j ≡ Some (c, x) → is_new lines r c ≡ false) → is_new (y ∷ lines) r c ≡ false
    go (inl q) rest = first i (subst (λ b. slice_get (cons_if b (y.clock, y.value) (lines_of r lines)) i ≡ Some (c, x)) (eq-eqb y.rank r q) e) rest q
    go (inr ne) rest =
        rw (rest i (subst (λ b. slice_get (cons_if b (y.clock, y.value) (lines_of r lines)) i ≡ Some (c, x)) (ne_eqb y.rank r ne) e))
        (or_false (not (y.rank == r) || nat_lt y.clock c))

-- a print that is in the run is shown no second time
pub print_again : (C : List Passed) (r c : ℕ) (lines : List Line) (x : ℤ) (o : Option Message) → lines_of r lines ≡ printed C r
    → slice_get (history C r) c ≡ Some (prints x, o) → after_line lines r (c + 1) x ≡ lines
print_again C r c lines x o had there =
    let i = print_there 0 c (history C r) x o there in
    let z : 0 + c + 1 ≡ c + 1 = omega arith in
    ap (λ b. if b then lines ++ record { rank = r; clock = c + 1; value = x } ∷ [] else lines)
    (line_again r (c + 1) i.0 x lines (subst (λ y. slice_get y i.0 ≡ Some (c + 1, x)) (sym had) (i.1 ∙ ap (λ j. Some (j, x)) z)))
