-- The form of a script's line: `kill R at C` or `image R at C` (docs/FORMATS.md, "Scripts").
use Rattle.std.specs.Prelude.{ℕ, List, [], ◌∷◌, codes, Option, Some, None, if◌then◌else◌}
use Rattle.std.specs.Str.{bytes_eq}
use Rattle.rank_text.specs.Lines.Numbers.{decimal_of}
use Rattle.rank_text.specs.declared.script.line.Order.{Order}
use Rattle.rank_text.specs.declared.script.line.Order.TheVariants.{Kill, Image}
use Rattle.rank_text.specs.declared.script.line.ScriptLine.{ScriptLine}

-- the order that a word names
abbrev pub order_of : List ℕ → Option Order
order_of word =
    if bytes_eq word (codes "kill") then Some Kill else (
    if bytes_eq word (codes "image") then Some Image else None)

-- the clock that the words `at C` name; fewer words name none, and neither do more
abbrev pub clock_of : List (List ℕ) → Option ℕ
clock_of [] = None
clock_of (at ∷ []) = None
clock_of (at ∷ (clock ∷ [])) = if bytes_eq at (codes "at") then decimal_of clock else None
clock_of (at ∷ (clock ∷ (more ∷ words))) = None

-- an order, a rank and a clock, if all three are there
abbrev pub line_with : Option Order → Option ℕ → Option ℕ → Option ScriptLine
line_with None r c = None
line_with (Some o) None c = None
line_with (Some o) (Some r) None = None
line_with (Some o) (Some r) (Some c) = Some (record { rank = r; clock = c; order = o })

-- what words say that have the form: an order, the number of a rank, and `at` with a clock; the numbers are any decimal ones
abbrev pub form_of : List (List ℕ) → Option ScriptLine
form_of [] = None
form_of (order ∷ []) = None
form_of (order ∷ (rank ∷ words)) = line_with (order_of order) (decimal_of rank) (clock_of words)
