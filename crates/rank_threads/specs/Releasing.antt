-- Which of the effects that wait at a rank's gate (output commit) needs a screen.
use Rattle.std.specs.Prelude.{Bool, true, false, Option, Some, None}
use Rattle.rank_node.specs.declared.waiting.Waiting.{Waiting}
use Rattle.rank_node.specs.declared.waiting.Waiting.TheVariants as waits

-- this is a line
abbrev pub is_line : Option Waiting → Bool
is_line None = false
is_line (Some (waits.Event e)) = false
is_line (Some (waits.Send dest clock)) = false
is_line (Some (waits.Line clock value)) = true
