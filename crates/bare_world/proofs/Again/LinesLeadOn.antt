-- Where the lines of a program lead that leave a rank's state as it is: an `else` that is reached from above and an `end` lead
-- on, and the `end` of a `while` leads back to it. So they come to an end.
use Rattle.std.proofs.Common.{◌≡◌, ℕ, zero, suc, ◌+◌, ◌-◌, ◌<◌, ◌≤◌, ◌⊎◌, inl, inr, List, [], ◌∷◌, ◌++◌, length, drop, Option, Some, None, refl, sym, ap}
use Rattle.std.proofs.Common.{subst, ◌∙◌, arith, slice_get}
use Rattle.std.proofs.lemmas.Option.{slice_get_within}
use Rattle.rank_language.specs.Placed.{Placed}
use Rattle.rank_language.specs.Block.{Block, done, plain, if_only, if_else, loop, Line, simple_line, if_line, else_line, end_line, while_line, back_line}
use Rattle.rank_language.specs.Block.{size, lines_at, Leads, remaining}
use Rattle.rank_language.proofs.Places.{length-lines_at, leads}
use Rattle.bare_world.specs.Measures.{hops}
use Rattle.bare_world.proofs.Lists.Beginnings.{next_of_drop, drop_zero}

-- ---- the `end` of a `while` leads back to it

-- these lines stand from position n on
abbrev At : List Line → ℕ → List Line → Type 0
At whole n [] = Unit {0}
At whole n (l ∷ ls) = (slice_get whole n ≡ Some l) × At whole (n + 1) ls

-- the first of them do
at_front : (whole : List Line) (n : ℕ) (xs ys : List Line) → At whole n (xs ++ ys) → At whole n xs
at_front whole n [] ys h = tt
at_front whole n (x ∷ xs) ys h = (h.0, at_front whole (n + 1) xs ys h.1)

-- and behind these the others
at_back : (whole : List Line) (n : ℕ) (xs ys : List Line) → At whole n (xs ++ ys) → At whole (n + length xs) ys
at_back whole n [] ys h = subst (λ k. At whole k ys) (let e : n ≡ n + 0 = omega arith in e) h
at_back whole n (x ∷ xs) ys h =
    subst (λ k. At whole k ys) (let e : n + 1 + length xs ≡ n + length (x ∷ xs) = omega arith in e) (at_back whole (n + 1) xs ys h.1)

-- behind the lines of a block
at_behind : (whole : List Line) (n : ℕ) (y : Block) (ys : List Line) → At whole n (lines_at n y ++ ys) → At whole (n + size y) ys
at_behind whole n y ys h = subst (λ k. At whole (n + k) ys) (length-lines_at n y) (at_back whole n (lines_at n y) ys h)

-- what is left from a position on stands there
at_drop : (whole : List Line) (n : ℕ) (ls : List Line) → drop n whole ≡ ls → At whole n ls
at_drop whole n [] e = tt
at_drop whole n (l ∷ ls) e = let x = next_of_drop n whole l ls e in (x.there, at_drop whole (n + 1) ls x.dropped)

-- a `while` stands at this position
abbrev pub IsWhileAt : List Line → ℕ → Type 0
IsWhileAt whole q = (e : Placed) × (to : ℕ) × (slice_get whole q ≡ Some (while_line e to))

-- where a line leads back, a `while` stands
abbrev GoesBack : List Line → Line → Type 0
GoesBack whole (simple_line s) = Unit {0}
GoesBack whole (if_line e q) = Unit {0}
GoesBack whole (else_line q) = Unit {0}
GoesBack whole end_line = Unit {0}
GoesBack whole (while_line e q) = Unit {0}
GoesBack whole (back_line q) = IsWhileAt whole q

-- so for each of these lines
abbrev AllGoBack : List Line → List Line → Type 0
AllGoBack whole [] = Unit {0}
AllGoBack whole (l ∷ ls) = GoesBack whole l × AllGoBack whole ls

-- and for these behind those
all_append : (whole xs ys : List Line) → AllGoBack whole xs → AllGoBack whole ys → AllGoBack whole (xs ++ ys)
all_append whole [] ys h g = g
all_append whole (x ∷ xs) ys h g = (h.0, all_append whole xs ys h.1 g)

-- so for the lines of each block that stands among the whole
all_go_back : (whole : List Line) (n : ℕ) (b : Block) → At whole n (lines_at n b) → AllGoBack whole (lines_at n b)
all_go_back whole n done h = tt
all_go_back whole n (plain s r) h = (tt, all_go_back whole (n + 1) r h.1)
all_go_back whole n (if_only e y r) h =
    let m = n + 1 + size y in
    let rest = at_behind whole (n + 1) y (end_line ∷ lines_at (m + 1) r) h.1 in
    let first = all_go_back whole (n + 1) y (at_front whole (n + 1) (lines_at (n + 1) y) (end_line ∷ lines_at (m + 1) r) h.1) in
    (tt, all_append whole (lines_at (n + 1) y) (end_line ∷ lines_at (m + 1) r) first (tt, all_go_back whole (m + 1) r rest.1))
all_go_back whole n (if_else e y o r) h =
    let m = n + 1 + size y in
    let q = m + 1 + size o in
    let last = end_line ∷ lines_at (q + 1) r in
    let others = else_line (q + 1) ∷ (lines_at (m + 1) o ++ last) in
    let second = at_behind whole (n + 1) y others h.1 in
    let rest = at_behind whole (m + 1) o last second.1 in
    let first = all_go_back whole (n + 1) y (at_front whole (n + 1) (lines_at (n + 1) y) others h.1) in
    let then_that = all_go_back whole (m + 1) o (at_front whole (m + 1) (lines_at (m + 1) o) last second.1) in (
      tt,
      all_append whole (lines_at (n + 1) y) others first
          (tt, all_append whole (lines_at (m + 1) o) last then_that (tt, all_go_back whole (q + 1) r rest.1)),
    )
all_go_back whole n (loop e y r) h =
    let m = n + 1 + size y in
    let rest = at_behind whole (n + 1) y (back_line n ∷ lines_at (m + 1) r) h.1 in
    let body = all_go_back whole (n + 1) y (at_front whole (n + 1) (lines_at (n + 1) y) (back_line n ∷ lines_at (m + 1) r) h.1) in
    (tt, all_append whole (lines_at (n + 1) y) (back_line n ∷ lines_at (m + 1) r) body ((e, m + 1, h.0), all_go_back whole (m + 1) r rest.1))

-- for one of them
one_goes_back : (whole ls : List Line) (k : ℕ) (l : Line) → AllGoBack whole ls → slice_get ls k ≡ Some l → GoesBack whole l
one_goes_back whole [] k l h e = absurd cc
one_goes_back whole (x ∷ ls) zero l h e = let same : x ≡ l = cc in subst (λ z. GoesBack whole z) same h.0
one_goes_back whole (x ∷ ls) (suc k) l h e = one_goes_back whole ls k l h.1 e

-- of a program's lines one that leads back leads to a `while`
back_to_while : (lines : List Line) (b : Block) (p q : ℕ) → lines ≡ lines_at 0 b → slice_get lines p ≡ Some (back_line q) → IsWhileAt lines q
back_to_while lines b p q shaped at =
    one_goes_back lines (lines_at 0 b) p (back_line q) (all_go_back lines 0 b (at_drop lines 0 (lines_at 0 b) (drop_zero lines ∙ shaped)))
    (ap (λ z. slice_get z p) (sym shaped) ∙ at)

-- ---- lines that leave the state have fewer of them behind

-- what a line says of where it leads
pub line_leads : (lines : List Line) (b : Block) (p : ℕ) (l : Line) → lines ≡ lines_at 0 b → slice_get lines p ≡ Some l → Leads (remaining b) p l
line_leads lines b p l shaped at = leads b p l (ap (λ z. slice_get z p) (sym shaped) ∙ at)

-- from a position where no such line stands there are none, and from one of n lines where one stands no more than from that position on
hops_at : (lines : List Line) (q : ℕ) (o : Option Line) → slice_get lines q ≡ o
    → (hops (length lines) q o ≡ 0) ⊎ ((q < length lines) × (hops (length lines) q o ≤ 2 + length lines - q))
hops_at lines q None e = inl refl
hops_at lines q (Some (simple_line s)) e = inl refl
hops_at lines q (Some (if_line x t)) e = inl refl
hops_at lines q (Some (else_line t)) e = inr (slice_get_within lines q (else_line t) e, omega arith)
hops_at lines q (Some end_line) e = inr (slice_get_within lines q end_line e, omega arith)
hops_at lines q (Some (while_line x t)) e = inl refl
hops_at lines q (Some (back_line t)) e = let w = slice_get_within lines q (back_line t) e in inr (w, omega (arith, w))

-- there are never more than this
pub hops_most : (n p : ℕ) (o : Option Line) → hops n p o ≤ n + 2
hops_most n p None = omega arith
hops_most n p (Some (simple_line s)) = omega arith
hops_most n p (Some (if_line x t)) = omega arith
hops_most n p (Some (else_line t)) = omega arith
hops_most n p (Some end_line) = omega arith
hops_most n p (Some (while_line x t)) = omega arith
hops_most n p (Some (back_line t)) = omega arith

-- further on there are fewer
onward_less : (lines : List Line) (p q : ℕ) → p < q → p < length lines → hops (length lines) q (slice_get lines q) < 2 + length lines - p
onward_less lines p q on within = go (hops_at lines q (slice_get lines q) refl)
  where
    go : (hops (length lines) q (slice_get lines q) ≡ 0)
        ⊎ ((q < length lines) × (hops (length lines) q (slice_get lines q) ≤ 2 + length lines - q))
        → hops (length lines) q (slice_get lines q) < 2 + length lines - p
    go (inl z) = omega (arith, z, within)
    go (inr h) =
        let l = h.0 in
        let m = h.1 in
        omega (arith, l, m, on, within)

-- behind an `else` that is reached from above
pub else_less : (lines : List Line) (b : Block) (p q : ℕ) → lines ≡ lines_at 0 b → slice_get lines p ≡ Some (else_line q)
    → hops (length lines) q (slice_get lines q) < hops (length lines) p (Some (else_line q))
else_less lines b p q shaped at =
    onward_less lines p q (line_leads lines b p (else_line q) shaped at).0 (slice_get_within lines p (else_line q) at)

-- behind the `end` of an `if`
pub end_less : (lines : List Line) (p : ℕ) → slice_get lines p ≡ Some end_line
    → hops (length lines) (p + 1) (slice_get lines (p + 1)) < hops (length lines) p (Some end_line)
end_less lines p at = onward_less lines p (p + 1) (omega arith) (slice_get_within lines p end_line at)

-- behind the `end` of a `while`
pub back_less : (lines : List Line) (b : Block) (p q : ℕ) → lines ≡ lines_at 0 b → slice_get lines p ≡ Some (back_line q)
    → hops (length lines) q (slice_get lines q) < hops (length lines) p (Some (back_line q))
back_less lines b p q shaped at =
    let w = back_to_while lines b p q shaped at in
    let z : hops (length lines) q (slice_get lines q) ≡ 0 = ap (λ o. hops (length lines) q o) w.2 in
    omega (arith, z)
