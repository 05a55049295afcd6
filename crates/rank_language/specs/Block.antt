-- A program as a tree, its lines in order, and the statements that remain at a line
-- (docs/LANGUAGE.md: next positions).
use Rattle.std.specs.Prelude.{◌≡◌, ℕ, ◌+◌, ◌<◌, List, [], ◌∷◌, ◌++◌, Bool, true, false, Option, Some, None, slice_index_or}
use Rattle.rank_language.specs.Placed.{Placed, Simple}

-- A list of statements. Each statement is followed by the rest of its list.
pub data Block : Type 0 where
  done : Block
  plain : (s : Simple) (rest : Block) → Block
  if_only : (e : Placed) (first rest : Block) → Block
  if_else : (e : Placed) (first second rest : Block) → Block
  loop : (e : Placed) (body rest : Block) → Block

-- one list of statements after another
infixr 30 ◌then◌
abbrev pub ◌then◌ : Block → Block → Block
done then k = k
(plain s r) then k = plain s (r then k)
(if_only e y r) then k = if_only e y (r then k)
(if_else e y o r) then k = if_else e y o (r then k)
(loop e y r) then k = loop e y (r then k)

-- A line, with where it leads to: an `if` or a `while` whose value is 0, an `else` that is reached from above, the `end` of a `while`.
pub data Line : Type 0 where
  simple_line : (s : Simple) → Line
  if_line : (e : Placed) (target : ℕ) → Line
  else_line : (target : ℕ) → Line
  end_line : Line
  while_line : (e : Placed) (target : ℕ) → Line
  back_line : (target : ℕ) → Line

-- how many lines a list of statements has
abbrev pub size : Block → ℕ
size done = 0
size (plain s r) = 1 + size r
size (if_only e y r) = 1 + (size y + (1 + size r))
size (if_else e y o r) = 1 + (size y + (1 + (size o + (1 + size r))))
size (loop e y r) = 1 + (size y + (1 + size r))

-- the lines of a list of statements, the first of them at position n
abbrev pub lines_at : ℕ → Block → List Line
lines_at n done = []
lines_at n (plain s r) = simple_line s ∷ lines_at (n + 1) r
lines_at n (if_only e y r) =
    let m = n + 1 + size y in
    if_line e (m + 1) ∷ (lines_at (n + 1) y ++ end_line ∷ lines_at (m + 1) r)
lines_at n (if_else e y o r) =
    let m = n + 1 + size y in
    let q = m + 1 + size o in
    if_line e (m + 1) ∷ (lines_at (n + 1) y ++ else_line (q + 1) ∷ (lines_at (m + 1) o ++ end_line ∷ lines_at (q + 1) r))
lines_at n (loop e y r) =
    let m = n + 1 + size y in
    while_line e (m + 1) ∷ (lines_at (n + 1) y ++ back_line n ∷ lines_at (m + 1) r)

-- at each line of a list, the statements that remain, where others follow all; in a `while` and at its `end` the `while` follows again
abbrev pub places : Block → Block → List Block
places done k = []
places (plain s r) k = plain s (r then k) ∷ places r k
places (if_only e y r) k = if_only e y (r then k) ∷ (places y (r then k) ++ (r then k) ∷ places r k)
places (if_else e y o r) k =
    if_else e y o (r then k) ∷ (places y (r then k) ++ (r then k) ∷ (places o (r then k) ++ (r then k) ∷ places r k))
places (loop e y r) k =
    loop e y (r then k) ∷ (places y (loop e y (r then k)) ++ loop e y (r then k) ∷ places r k)

-- the statements that remain at a position, none past the last line
abbrev pub remaining : Block → ℕ → Block
remaining t p = slice_index_or (places t done) p done

-- the expression that the first statement tests
abbrev pub tested : Block → Option Placed
tested done = None
tested (plain s r) = None
tested (if_only e y r) = Some e
tested (if_else e y o r) = Some e
tested (loop e y r) = Some e

-- the statements that remain after a test; the body of a `while` is followed by the `while`
abbrev pub taken : Bool → Block → Block
taken truth done = done
taken truth (plain s r) = plain s r
taken true (if_only e y r) = y then r
taken false (if_only e y r) = r
taken true (if_else e y o r) = y then r
taken false (if_else e y o r) = o then r
taken true (loop e y r) = y then (loop e y r)
taken false (loop e y r) = r

-- What a line at position p says of the statements that remain there, and of the positions that it leads to.
abbrev pub Leads : (ℕ → Block) → ℕ → Line → Type 0
Leads at p (simple_line s) = at p ≡ plain s (at (p + 1))
Leads at p (if_line e q) = (p < q) × (tested (at p) ≡ Some e) × (at (p + 1) ≡ taken true (at p)) × (at q ≡ taken false (at p))
Leads at p (else_line q) = (p < q) × (at p ≡ at q)
Leads at p end_line = at p ≡ at (p + 1)
Leads at p (while_line e q) = (p < q) × (tested (at p) ≡ Some e) × (at (p + 1) ≡ taken true (at p)) × (at q ≡ taken false (at p))
Leads at p (back_line q) = (q < p) × (at p ≡ at q)

-- where a line at a position leads, by the truth of what it tests
abbrev pub next_position : Line → ℕ → Bool → ℕ
next_position (simple_line s) p truth = p + 1
next_position (if_line e q) p true = p + 1
next_position (if_line e q) p false = q
next_position (else_line q) p truth = q
next_position end_line p truth = p + 1
next_position (while_line e q) p true = p + 1
next_position (while_line e q) p false = q
next_position (back_line q) p truth = q
