use Rattle.std.proofs.Common.{◌≡◌, ◌++◌, length, string_bytes}
use Rattle.runner.specs.OutcomesText.{values_text}
use Rattle.runner.proofs.explored.print_values_of.Given as goal

-- what is written and the values that are left are the whole
abbrev pub invariant-loop-rest : goal.invariant-loop-rest
invariant-loop-rest l =
    string_bytes l.text ++ values_text l.rank l.rest ≡ string_bytes l.initial.text ++ values_text l.rank l.values

abbrev pub decreases-loop-rest : goal.decreases-loop-rest
decreases-loop-rest l = length l.rest
