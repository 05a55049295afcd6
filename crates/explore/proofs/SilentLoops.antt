-- The `end` of a `while` leads back to a line that is one, so whoever is led on by lines that only lead
-- on comes to a line that does something, or behind the last.
use Rattle.std.proofs.Common.{◌≡◌, ℕ, zero, suc, ◌+◌, List, [], ◌∷◌, ◌++◌, length, Option, Some, slice_get, ap, subst, arith}
use Rattle.rank_language.specs.Placed.{Placed}
use Rattle.rank_language.specs.Block.{Block, done, plain, if_only, if_else, loop, Line, simple_line, if_line, else_line, end_line, while_line}
use Rattle.rank_language.specs.Block.{back_line, size, lines_at}
use Rattle.rank_language.proofs.Places.{length-lines_at}

-- these lines stand from position n on
abbrev Stand : (ℕ → Option Line) → ℕ → List Line → Type 0
Stand get n [] = Unit {0}
Stand get n (l ∷ ls) = (get n ≡ Some l) × Stand get (n + 1) ls

-- so do the first of them
front : (get : ℕ → Option Line) (n : ℕ) (xs ys : List Line) → Stand get n (xs ++ ys) → Stand get n xs
front get n [] ys h = tt
front get n (l ∷ ls) ys h = (h.0, front get (n + 1) ls ys h.1)

-- and the last, behind the first
back : (get : ℕ → Option Line) (n m : ℕ) (xs ys : List Line) → n + length xs ≡ m → Stand get n (xs ++ ys) → Stand get m ys
back get n m [] ys q h = subst (λ k. Stand get k ys) (let e : n ≡ m = omega (arith, q) in e) h
back get n m (l ∷ ls) ys q h = back get (n + 1) m ls ys (omega (arith, q)) h.1

-- a line that leads back leads to a `while`
abbrev pub LeadsBack : (ℕ → Option Line) → Line → Type 0
LeadsBack get (simple_line s) = Unit {0}
LeadsBack get (if_line e q) = Unit {0}
LeadsBack get (else_line q) = Unit {0}
LeadsBack get end_line = Unit {0}
LeadsBack get (while_line e q) = Unit {0}
LeadsBack get (back_line q) = (e : Placed) × (target : ℕ) × (get q ≡ Some (while_line e target))

-- each of them does
abbrev AllLeadBack : (ℕ → Option Line) → List Line → Type 0
AllLeadBack get [] = Unit {0}
AllLeadBack get (l ∷ ls) = LeadsBack get l × AllLeadBack get ls

-- so it is of two lists, one behind the other
both : (get : ℕ → Option Line) (xs ys : List Line) → AllLeadBack get xs → AllLeadBack get ys → AllLeadBack get (xs ++ ys)
both get [] ys h k = k
both get (x ∷ xs) ys h k = (h.0, both get xs ys h.1 k)

-- so each of a list of statements
all_back : (get : ℕ → Option Line) (n : ℕ) (b : Block) → Stand get n (lines_at n b) → AllLeadBack get (lines_at n b)
all_back get n done h = tt
all_back get n (plain s r) h = (tt, all_back get (n + 1) r h.1)
all_back get n (if_only v y r) h =
    let m = n + 1 + size y in
    let ys = lines_at (n + 1) y in
    let rest = end_line ∷ lines_at (m + 1) r in
    let more = back get (n + 1) m ys rest (ap (λ z. n + 1 + z) (length-lines_at (n + 1) y)) h.1 in
    (tt, both get ys rest (all_back get (n + 1) y (front get (n + 1) ys rest h.1)) (tt, all_back get (m + 1) r more.1))
all_back get n (if_else v y o r) h =
    let m = n + 1 + size y in
    let q = m + 1 + size o in
    let ys = lines_at (n + 1) y in
    let os = lines_at (m + 1) o in
    let last = end_line ∷ lines_at (q + 1) r in
    let rest = else_line (q + 1) ∷ (os ++ last) in
    let more = back get (n + 1) m ys rest (ap (λ z. n + 1 + z) (length-lines_at (n + 1) y)) h.1 in
    let most = back get (m + 1) q os last (ap (λ z. m + 1 + z) (length-lines_at (m + 1) o)) more.1 in (
      tt,
      both get ys rest (all_back get (n + 1) y (front get (n + 1) ys rest h.1))
          (tt, both get os last (all_back get (m + 1) o (front get (m + 1) os last more.1)) (tt, all_back get (q + 1) r most.1)),
    )
all_back get n (loop v y r) h =
    let m = n + 1 + size y in
    let ys = lines_at (n + 1) y in
    let rest = back_line n ∷ lines_at (m + 1) r in
    let more = back get (n + 1) m ys rest (ap (λ z. n + 1 + z) (length-lines_at (n + 1) y)) h.1 in
    (tt, both get ys rest (all_back get (n + 1) y (front get (n + 1) ys rest h.1)) ((v, m + 1, h.0), all_back get (m + 1) r more.1))

-- lines stand where they are listed
stand_self : (get : ℕ → Option Line) (n : ℕ) (ls : List Line) → ((i : ℕ) → get (n + i) ≡ slice_get ls i) → Stand get n ls
stand_self get n [] f = tt
stand_self get n (l ∷ ls) f = (
  subst (λ k. get k ≡ Some l) (let q : n + 0 ≡ n = omega arith in q) (f 0),
  stand_self get (n + 1) ls (λ i. subst (λ k. get k ≡ slice_get ls i) (let q : n + suc i ≡ n + 1 + i = omega arith in q) (f (suc i))),
)

-- one of them
one_back : (get : ℕ → Option Line) (ls : List Line) (p : ℕ) (l : Line) → AllLeadBack get ls → slice_get ls p ≡ Some l → LeadsBack get l
one_back get [] p l h is = absurd cc
one_back get (x ∷ xs) zero l h is = let same : x ≡ l = cc in subst (LeadsBack get) same h.0
one_back get (x ∷ xs) (suc p) l h is = one_back get xs p l h.1 is

-- so each line of a tree
pub leads_back : (t : Block) (p : ℕ) (l : Line) → slice_get (lines_at 0 t) p ≡ Some l → LeadsBack (λ q. slice_get (lines_at 0 t) q) l
leads_back t p l is =
    let get : ℕ → Option Line = λ q. slice_get (lines_at 0 t) q in
    one_back get (lines_at 0 t) p l
    (all_back get 0 t (stand_self get 0 (lines_at 0 t) (λ i. ap get (let q : 0 + i ≡ i = omega arith in q)))) is
