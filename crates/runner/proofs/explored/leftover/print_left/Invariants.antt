use Rattle.std.proofs.Common.{◌≡◌, ◌+◌, ◌≤◌, ◌++◌, length, string_bytes}
use Rattle.runner.specs.LeftText.{left_text, lines_behind}
use Rattle.runner.proofs.explored.leftover.print_left.Given as goal

-- what is written and what is left are the whole
abbrev pub invariant-loop-rest : goal.invariant-loop-rest
invariant-loop-rest l = record {
  few : l.count + length l.rest ≤ length l.messages;
  whole : string_bytes l.text ++ lines_behind l.before l.count l.rest ≡ string_bytes l.initial.text ++ left_text l.before l.messages;
}

abbrev pub decreases-loop-rest : goal.decreases-loop-rest
decreases-loop-rest l = length l.rest
