-- The `end` of a `while` is led back to it when the `while` is met, with the lines behind it found. That changes one
-- line and no statement, place or number of lines; the code has these lines from the last one on.
use Rattle.std.proofs.Common.{◌≡◌, ◌≢◌, ℕ, zero, suc, ◌+◌, ◌-◌, ◌<◌, ◌≤◌, List, [], ◌∷◌, ◌++◌}
use Rattle.std.proofs.Common.{length, map, reverse, slice_set, get_or, refl, ap, ◌∙◌, sym, arith}
use Rattle.std.proofs.lemmas.List.{reverse-append, length-reverse, length-map, map-append, set-get_or}
use Rattle.rank_text.specs.declared.grammar.form.Form.{Form}
use Rattle.rank_text.specs.declared.grammar.form.Form.TheVariants as source_form
use Rattle.rank_text.specs.declared.grammar.written.Written.{Written}
use Rattle.rank_text.specs.Grammar.SeenForms.{form_seen}
use Rattle.rank_language.specs.declared.statement.Statement.{Statement}
use Rattle.rank_language.specs.declared.statement.Statement.TheVariants as made
use Rattle.rank_language.specs.Block.{Line, simple_line, if_line, else_line, end_line, while_line, back_line}
use Rattle.rank_language.specs.Shape.{step_of}
use Rattle.rank_language.specs.Seen.{line_of}
use Rattle.rank_language.specs.Program.{IsPlaced, AllPlaced}
use Rattle.rank_language.specs.Ends.{BlockKind, is_plain, is_if, is_else, is_end, is_while, kind_of, led_back, back_at, lines_behind}

-- a line that is led back is the same statement
led_back-step : (n : ℕ) (l : Line) → step_of (led_back n l) ≡ step_of l
led_back-step n (simple_line s) = refl
led_back-step n (if_line e q) = refl
led_back-step n (else_line q) = refl
led_back-step n end_line = refl
led_back-step n (while_line e q) = refl
led_back-step n (back_line q) = refl

-- its places are in the tables
led_back-placed : (v a n : ℕ) (l : Line) → IsPlaced v a l → IsPlaced v a (led_back n l)
led_back-placed v a n (simple_line s) h = h
led_back-placed v a n (if_line e q) h = h
led_back-placed v a n (else_line q) h = h
led_back-placed v a n end_line h = h
led_back-placed v a n (while_line e q) h = h
led_back-placed v a n (back_line q) h = h

-- lines of which one is led back are the same statements
back_at-steps : (n j : ℕ) (ls : List Line) → map step_of (back_at n j ls) ≡ map step_of ls
back_at-steps n j [] = refl
back_at-steps n zero (l ∷ ls) = ap (λ x. x ∷ map step_of ls) (led_back-step n l)
back_at-steps n (suc j) (l ∷ ls) = ap (λ z. step_of l ∷ z) (back_at-steps n j ls)

-- their places are in the tables
back_at-placed : (v a n j : ℕ) (ls : List Line) → AllPlaced v a ls → AllPlaced v a (back_at n j ls)
back_at-placed v a n j [] h = h
back_at-placed v a n zero (l ∷ ls) h = (led_back-placed v a n l h.0, h.1)
back_at-placed v a n (suc j) (l ∷ ls) h = (h.0, back_at-placed v a n j ls h.1)

-- the lines behind a statement are the same statements
pub behind-steps : (n : ℕ) (k : BlockKind) (target : ℕ) (ls : List Line) → map step_of (lines_behind n k target ls) ≡ map step_of ls
behind-steps n is_plain target ls = refl
behind-steps n is_if target ls = refl
behind-steps n is_else target ls = refl
behind-steps n is_end target ls = refl
behind-steps n is_while target ls = back_at-steps n (target - n - 2) ls

-- their places are in the tables
pub behind-placed : (v a n : ℕ) (k : BlockKind) (target : ℕ) (ls : List Line) → AllPlaced v a ls → AllPlaced v a (lines_behind n k target ls)
behind-placed v a n is_plain target ls h = h
behind-placed v a n is_if target ls h = h
behind-placed v a n is_else target ls h = h
behind-placed v a n is_end target ls h = h
behind-placed v a n is_while target ls h = back_at-placed v a n (target - n - 2) ls h

-- the line behind some lines is led back
pub back_seam : (n j : ℕ) (xs ys : List Line) (l : Line) → j ≡ length xs → back_at n j (xs ++ l ∷ ys) ≡ xs ++ led_back n l ∷ ys
back_seam n zero [] ys l h = refl
back_seam n (suc j) [] ys l h = cc
back_seam n zero (x ∷ xs) ys l h = cc
back_seam n (suc j) (x ∷ xs) ys l h = ap (λ z. x ∷ z) (back_seam n j xs ys l (omega (arith, h)))

-- a line behind the one that is led back stays
back_front : (n j : ℕ) (xs : List Line) (l : Line) → j < length xs → back_at n j (xs ++ l ∷ []) ≡ back_at n j xs ++ l ∷ []
back_front n j [] l h = absurd (omega (arith, h))
back_front n zero (x ∷ xs) l h = refl
back_front n (suc j) (x ∷ xs) l h = ap (λ z. x ∷ z) (back_front n j xs l (omega (arith, h)))

-- past the last line none is led back
back_beyond : (n j : ℕ) (ls : List Line) → length ls ≤ j → back_at n j ls ≡ ls
back_beyond n j [] h = refl
back_beyond n zero (l ∷ ls) h = absurd (omega (arith, h))
back_beyond n (suc j) (l ∷ ls) h = ap (λ z. l ∷ z) (back_beyond n j ls (omega (arith, h)))

-- the lines of some statements, from the last one on
abbrev lines_reversed : List Statement → List Line
lines_reversed xs = map line_of (reverse xs)

-- the first statement has the last line
last_line : (x : Statement) (xs : List Statement) → lines_reversed (x ∷ xs) ≡ lines_reversed xs ++ line_of x ∷ []
last_line x xs = ap (map line_of) (reverse-append (x ∷ []) xs) ∙ map-append line_of (reverse xs) (x ∷ [])

-- there are as many lines as statements
length-lines_reversed : (xs : List Statement) → length (lines_reversed xs) ≡ length xs
length-lines_reversed xs = length-map (reverse xs) line_of ∙ length-reverse xs

-- a statement that is written over where its line is led back
written : (n i j : ℕ) (xs : List Statement) (v d : Statement) → i + j + 1 ≡ length xs → line_of v ≡ led_back n (line_of (get_or xs i d)) →
    lines_reversed (slice_set xs i v) ≡ back_at n j (lines_reversed xs)
written n i j [] v d h e = absurd (omega (arith, h))
written n zero j (x ∷ xs) v d h e =
    let k : j ≡ length (lines_reversed xs) = omega (arith, h, length-lines_reversed xs) in
    last_line v xs
    ∙ ap (λ l. lines_reversed xs ++ l ∷ []) e
    ∙ sym (back_seam n j (lines_reversed xs) [] (line_of x) k)
    ∙ ap (back_at n j) (sym (last_line x xs))
written n (suc i) j (x ∷ xs) v d h e =
    let k : j < length (lines_reversed xs) = omega (arith, h, length-lines_reversed xs) in
    last_line x (slice_set xs i v)
    ∙ ap (λ z. z ++ line_of x ∷ []) (written n i j xs v d (omega (arith, h)) e)
    ∙ sym (back_front n j (lines_reversed xs) (line_of x) k)
    ∙ ap (back_at n j) (sym (last_line x xs))

-- a statement that is no `end` of an `if` isn't led back
kept_line : (n : ℕ) (x : Statement) → x ≢ made.EndIf → led_back n (line_of x) ≡ line_of x
kept_line n (made.Declare p) h = refl
kept_line n (made.DeclareArray p) h = refl
kept_line n (made.Assign p e) h = refl
kept_line n (made.AssignItem p i e) h = refl
kept_line n (made.If e q) h = refl
kept_line n (made.Else q) h = refl
kept_line n made.EndIf h = absurd (h refl)
kept_line n (made.While e q) h = refl
kept_line n (made.EndWhile q) h = refl
kept_line n (made.Send d t p) h = refl
kept_line n (made.Receive s t b) h = refl
kept_line n (made.Probe s t) h = refl
kept_line n (made.TryProbe s t p) h = refl
kept_line n (made.Print e) h = refl
kept_line n (made.Collect c) h = refl

-- behind a `while`, the `end` that is written over leads back to it
pub led : (n target i : ℕ) (form : Form) (e : Written) (xs : List Statement) (d : Statement) → form ≡ source_form.While e →
    i + (target - n - 2) + 1 ≡ length xs → get_or xs i d ≡ made.EndIf →
    lines_reversed (slice_set xs i (made.EndWhile n)) ≡ lines_behind n (kind_of (form_seen form)) target (lines_reversed xs)
led n target i form e xs d f h g =
    written n i (target - n - 2) xs (made.EndWhile n) d h (ap (λ x. led_back n (line_of x)) (sym g))
    ∙ ap (λ x. lines_behind n (kind_of (form_seen x)) target (lines_reversed xs)) (sym f)

-- behind a `while`, another statement stays
pub kept : (n target i : ℕ) (form : Form) (e : Written) (xs : List Statement) (d : Statement) → form ≡ source_form.While e →
    i + (target - n - 2) + 1 ≡ length xs → get_or xs i d ≢ made.EndIf →
    lines_reversed xs ≡ lines_behind n (kind_of (form_seen form)) target (lines_reversed xs)
kept n target i form e xs d f h g =
    ap lines_reversed (sym (set-get_or xs i d))
    ∙ written n i (target - n - 2) xs (get_or xs i d) d h (sym (kept_line n (get_or xs i d) g))
    ∙ ap (λ x. lines_behind n (kind_of (form_seen x)) target (lines_reversed xs)) (sym f)

-- where there are too few statements none is led back
pub back_past : (n j : ℕ) (xs : List Statement) → length xs ≤ j → lines_reversed xs ≡ back_at n j (lines_reversed xs)
back_past n j xs h = sym (back_beyond n j (lines_reversed xs) (omega (arith, h, length-lines_reversed xs)))
