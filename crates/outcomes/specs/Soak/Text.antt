-- The text of a script (docs/FORMATS.md, "Scripts").
use Rattle.std.specs.Prelude.{ℕ, List, [], ◌∷◌, ◌++◌, codes}
use Rattle.std.specs.Fmt.{decimal}
use Rattle.rank_text.specs.declared.script.line.Order.{Order}
use Rattle.rank_text.specs.declared.script.line.Order.TheVariants.{Kill, Image}
use Rattle.rank_text.specs.declared.script.line.ScriptLine.{ScriptLine}

-- the word that asks for it
abbrev pub order_word : Order → List ℕ
order_word Kill = codes "kill "
order_word Image = codes "image "

-- a line of a script
abbrev pub line_text : ScriptLine → List ℕ
line_text line = order_word line.order ++ decimal line.rank ++ codes " at " ++ decimal line.clock ++ codes "\n"

-- the lines of a script, in their order
abbrev pub text_of : List ScriptLine → List ℕ
text_of [] = []
text_of (line ∷ lines) = line_text line ++ text_of lines
