-- Where the statements of a text lead, found from the last one on: of each block that is still open
-- in front of some statements, the position behind the line that closes its present part
-- (docs/LANGUAGE.md: next positions). An `end` is met before the statement that it closes, so it
-- goes on like that of an `if` until a `while` that is met leads it back.
use Rattle.std.specs.Prelude.{ℕ, zero, suc, ◌+◌, ◌-◌, List, [], ◌∷◌, Option, Some, option_map}
use Rattle.rank_text.specs.Grammar.Forms.{Form, var_form, array_form, let_form, item_form, if_form, else_form, end_form, while_form}
use Rattle.rank_language.specs.Options.{◌>>=◌}
use Rattle.rank_text.specs.Grammar.Forms.{send_form, recv_form, probe_form, try_probe_form, print_form, barrier_form, bcast_form, reduce_form}
use Rattle.rank_text.specs.Checker.Scope.{Scope}
use Rattle.rank_language.specs.Placed.{Step, does, tests, repeats, otherwise, closes}
use Rattle.rank_language.specs.Block.{Line, simple_line, if_line, else_line, end_line, while_line, back_line}
use Rattle.rank_language.specs.Resolved.{form_resolved}

-- the position behind the innermost block's part
abbrev pub nearest : List ℕ → ℕ
nearest [] = 0
nearest (n ∷ ns) = n

-- the positions behind the outer blocks' parts
abbrev pub farther : List ℕ → List ℕ
farther [] = []
farther (n ∷ ns) = ns

-- what a statement does to blocks
pub data BlockKind : Type 0 where
  is_plain : BlockKind
  is_if : BlockKind
  is_else : BlockKind
  is_end : BlockKind
  is_while : BlockKind

-- what a statement by name does to blocks
abbrev pub kind_of : Form → BlockKind
kind_of (var_form x) = is_plain
kind_of (array_form x n) = is_plain
kind_of (let_form x e) = is_plain
kind_of (item_form x i e) = is_plain
kind_of (if_form e) = is_if
kind_of else_form = is_else
kind_of end_form = is_end
kind_of (while_form e) = is_while
kind_of (send_form d t p) = is_plain
kind_of (recv_form s t x) = is_plain
kind_of (probe_form s t) = is_plain
kind_of (try_probe_form s t x) = is_plain
kind_of (print_form e) = is_plain
kind_of barrier_form = is_plain
kind_of (bcast_form r x) = is_plain
kind_of (reduce_form o r e x) = is_plain

-- the target of a statement behind which blocks with these ends are open: an `if`, an `else` and a `while` lead to the nearest
abbrev pub target_of : BlockKind → List ℕ → ℕ
target_of is_plain ends = 0
target_of is_if ends = nearest ends
target_of is_else ends = nearest ends
target_of is_end ends = 0
target_of is_while ends = nearest ends

-- the ends in front of a statement at position n, where these are the ends behind it
abbrev pub ends_before : ℕ → BlockKind → List ℕ → List ℕ
ends_before n is_plain ends = ends
ends_before n is_if ends = farther ends
ends_before n is_else ends = (n + 1) ∷ farther ends
ends_before n is_end ends = (n + 1) ∷ ends
ends_before n is_while ends = farther ends

-- the ends in front of statements, the first of them at position n
abbrev pub ends_from : ℕ → List Form → List ℕ
ends_from n [] = []
ends_from n (f ∷ fs) = ends_before n (kind_of f) (ends_from (n + 1) fs)

-- a statement as a line that leads to a target
abbrev pub line_to : ℕ → Step → Line
line_to target (does s) = simple_line s
line_to target (tests e) = if_line e target
line_to target otherwise = else_line target
line_to target closes = end_line
line_to target (repeats e) = while_line e target

-- a line, which leads back to position n where it is an `end`
abbrev pub led_back : ℕ → Line → Line
led_back n (simple_line s) = simple_line s
led_back n (if_line e q) = if_line e q
led_back n (else_line q) = else_line q
led_back n end_line = back_line n
led_back n (while_line e q) = while_line e q
led_back n (back_line q) = back_line q

-- of these lines the one at a place, counted from 0, leads back to position n where it is an `end`
abbrev pub back_at : ℕ → ℕ → List Line → List Line
back_at n place [] = []
back_at n zero (l ∷ ls) = led_back n l ∷ ls
back_at n (suc place) (l ∷ ls) = l ∷ back_at n place ls

-- the lines behind a statement at position n that leads to a target: the one in front of a `while`'s target leads back to it
abbrev pub lines_behind : ℕ → BlockKind → ℕ → List Line → List Line
lines_behind n is_plain target ls = ls
lines_behind n is_if target ls = ls
lines_behind n is_else target ls = ls
lines_behind n is_end target ls = ls
lines_behind n is_while target ls = back_at n (target - n - 2) ls

-- a statement as a line, where these are the ends behind it
abbrev pub form_line : Scope → List ℕ → Form → Option Line
form_line s ends f = option_map (line_to (target_of (kind_of f) ends)) (form_resolved s f)

-- statements as lines, the first of them at position n
abbrev pub lines_from : Scope → ℕ → List Form → Option (List Line)
lines_from s n [] = Some []
lines_from s n (f ∷ fs) = do
  line ← form_line s (ends_from (n + 1) fs) f
  lines ← lines_from s (n + 1) fs
  Some (line ∷ lines_behind n (kind_of f) (target_of (kind_of f) (ends_from (n + 1) fs)) lines)
