use Rattle.std.proofs.Common.{◌≡◌, ◌++◌, length, string_bytes}
use Rattle.runner.specs.Enumerations.{enumeration}
use Rattle.runner.proofs.explored.enumerating.print_numbers.Given as goal

-- what is written and the numbers that are left are the whole
abbrev pub invariant-loop-rest : goal.invariant-loop-rest
invariant-loop-rest l = string_bytes l.text ++ enumeration l.rest ≡ string_bytes l.initial.text ++ enumeration l.numbers

abbrev pub decreases-loop-rest : goal.decreases-loop-rest
decreases-loop-rest l = length l.rest
