use Rattle.std.proofs.Common.{◌≡◌, ◌++◌, length, string_bytes}
use Rattle.runner.specs.LeftText.{each_text}
use Rattle.runner.proofs.explored.leftover.print_each.Given as goal

-- what is written and what is left are the whole
abbrev pub invariant-loop-rest : goal.invariant-loop-rest
invariant-loop-rest l = string_bytes l.text ++ each_text l.before l.rest ≡ string_bytes l.initial.text ++ each_text l.before l.listed

abbrev pub decreases-loop-rest : goal.decreases-loop-rest
decreases-loop-rest l = length l.rest
