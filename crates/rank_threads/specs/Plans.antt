-- Which order of a script is a rank's next (docs/FORMATS.md, "Scripts").
use Rattle.std.specs.Prelude.{ℕ, zero, suc, ◌==◌, List, [], ◌∷◌, ◌++◌, Option, Some, None, if◌then◌else◌}
use Rattle.rank_text.specs.Scripts.Script.{orders_of}
use Rattle.rank_text.specs.declared.script.line.Order.{Order}
use Rattle.rank_text.specs.declared.script.line.ScriptLine.{ScriptLine}

-- what the first of these lines asks for, if it is for the act of this clock
abbrev pub order_at : List ScriptLine → ℕ → Option Order
order_at [] clock = None
order_at (line ∷ lines) clock = if line.clock == clock then Some line.order else None

-- what a script asks of each of the ranks below this number
abbrev pub plans_below : ℕ → List ScriptLine → List (List ScriptLine)
plans_below zero script = []
plans_below (suc k) script = plans_below k script ++ orders_of k script ∷ []
