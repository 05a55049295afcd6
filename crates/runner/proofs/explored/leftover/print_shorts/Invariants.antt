use Rattle.std.proofs.Common.{◌≡◌, ◌+◌, ◌++◌, length, string_bytes}
use Rattle.runner.specs.LeftText.{shorts_text}
use Rattle.runner.proofs.explored.leftover.print_shorts.Given as goal

-- what is written and the outcomes that are left are the whole
abbrev pub invariant-loop-rest : goal.invariant-loop-rest
invariant-loop-rest l = record {
  within : l.number + length l.rest ≡ length l.outcomes;
  whole : string_bytes l.text ++ shorts_text (l.number + 1) l.rest ≡ string_bytes l.initial.text ++ shorts_text 1 l.outcomes;
}

abbrev pub decreases-loop-rest : goal.decreases-loop-rest
decreases-loop-rest l = length l.rest
