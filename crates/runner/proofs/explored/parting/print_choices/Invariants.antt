use Rattle.std.proofs.Common.{◌≡◌, ◌++◌, length, string_bytes}
use Rattle.runner.specs.Partings.{choices_text}
use Rattle.runner.proofs.explored.parting.print_choices.Given as goal

-- what is written and the choices that are left are the whole
abbrev pub invariant-loop-rest : goal.invariant-loop-rest
invariant-loop-rest l =
    string_bytes l.text ++ choices_text l.lines l.rest ≡ string_bytes l.initial.text ++ choices_text l.lines l.parted

abbrev pub decreases-loop-rest : goal.decreases-loop-rest
decreases-loop-rest l = length l.rest
