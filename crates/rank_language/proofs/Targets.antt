-- Where lines lead: each line of a list leads to a position up to the one behind the list's last line.
use Rattle.std.proofs.Common.{◌≡◌, ℕ, zero, suc, ◌+◌, ◌≤◌, List, [], ◌∷◌, ◌++◌, length, Bool, true, false, Some, slice_get, ap, subst, arith}
use Rattle.rank_language.specs.Block.{Block, done, plain, if_only, if_else, loop, Line, if_line, else_line}
use Rattle.rank_language.specs.Block.{end_line, while_line, back_line, size, lines_at, next_position}
use Rattle.rank_language.proofs.Places.{length-lines_at}

-- every line, the first of them at position n, leads to m at the most
abbrev Reach : ℕ → ℕ → List Line → Type 0
Reach m n [] = Unit {0}
Reach m n (l ∷ ls) = ((truth : Bool) → next_position l n truth ≤ m) × Reach m (n + 1) ls

-- lines behind lines lead so far at the most
reach_append : (m n k : ℕ) (xs ys : List Line) → n + length xs ≡ k → Reach m n xs → Reach m k ys → Reach m n (xs ++ ys)
reach_append m n k [] ys q h g = subst (λ z. Reach m z ys) (let e : k ≡ n = omega arith in e) g
reach_append m n k (x ∷ xs) ys q h g = (h.0, reach_append m (n + 1) k xs ys (omega arith) h.1 g)

-- an `if` leads to the next line or to its target
if_reach : (e : _) (q p m : ℕ) → p + 1 ≤ m → q ≤ m → (truth : Bool) → next_position (if_line e q) p truth ≤ m
if_reach e q p m h k true = h
if_reach e q p m h k false = k

-- and so does a `while`
while_reach : (e : _) (q p m : ℕ) → p + 1 ≤ m → q ≤ m → (truth : Bool) → next_position (while_line e q) p truth ≤ m
while_reach e q p m h k true = h
while_reach e q p m h k false = k

-- the lines of a list lead behind its last at the most
reach : (m n : ℕ) (b : Block) → n + size b ≤ m → Reach m n (lines_at n b)
reach m n done h = tt
reach m n (plain s r) h = (λ truth. omega arith, reach m (n + 1) r (omega arith))
reach m n (if_only e y r) h =
    let a = n + 1 + size y in (
      if_reach e (a + 1) n m (omega arith) (omega arith),
      reach_append m (n + 1) a (lines_at (n + 1) y) (end_line ∷ lines_at (a + 1) r) (ap (λ z. n + 1 + z) (length-lines_at (n + 1) y))
          (reach m (n + 1) y (omega arith)) (λ truth. omega arith, reach m (a + 1) r (omega arith)),
    )
reach m n (if_else e y o r) h =
    let a = n + 1 + size y in
    let q = a + 1 + size o in (
      if_reach e (a + 1) n m (omega arith) (omega arith),
      reach_append m (n + 1) a (lines_at (n + 1) y) (else_line (q + 1) ∷ (lines_at (a + 1) o ++ end_line ∷ lines_at (q + 1) r))
          (ap (λ z. n + 1 + z) (length-lines_at (n + 1) y)) (reach m (n + 1) y (omega arith)) (
            λ truth. omega arith,
            reach_append m (a + 1) q (lines_at (a + 1) o) (end_line ∷ lines_at (q + 1) r) (ap (λ z. a + 1 + z) (length-lines_at (a + 1) o))
                (reach m (a + 1) o (omega arith)) (λ truth. omega arith, reach m (q + 1) r (omega arith)),
          ),
    )
reach m n (loop e y r) h =
    let a = n + 1 + size y in (
      while_reach e (a + 1) n m (omega arith) (omega arith),
      reach_append m (n + 1) a (lines_at (n + 1) y) (back_line n ∷ lines_at (a + 1) r) (ap (λ z. n + 1 + z) (length-lines_at (n + 1) y))
          (reach m (n + 1) y (omega arith)) (λ truth. omega arith, reach m (a + 1) r (omega arith)),
    )

-- one of the lines leads so far at the most
reach_at : (m n : ℕ) (ls : List Line) (p : ℕ) (l : Line) → Reach m n ls → slice_get ls p ≡ Some l → (truth : Bool) → next_position l (n + p) truth ≤ m
reach_at m n [] p l h q truth = cc
reach_at m n (x ∷ ls) zero l h q truth =
    let e : x ≡ l = cc in
    let k : n ≡ n + 0 = omega arith in
    subst (λ z. next_position l z truth ≤ m) k (subst (λ z. next_position z n truth ≤ m) e (h.0 truth))
reach_at m n (x ∷ ls) (suc p) l h q truth =
    let k : n + 1 + p ≡ n + suc p = omega arith in
    subst (λ z. next_position l z truth ≤ m) k (reach_at m (n + 1) ls p l h.1 q truth)

-- a line of a tree leads to one of its positions or behind the last
pub reaches : (t : Block) (p : ℕ) (l : Line) → slice_get (lines_at 0 t) p ≡ Some l → (truth : Bool) → next_position l p truth ≤ size t
reaches t p l q truth =
    let k : 0 + p ≡ p = omega arith in
    subst (λ z. next_position l z truth ≤ size t) k (reach_at (size t) 0 (lines_at 0 t) p l (reach (size t) 0 t (omega arith)) q truth)
