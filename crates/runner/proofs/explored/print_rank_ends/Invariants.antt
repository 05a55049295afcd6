use Rattle.std.proofs.Common.{◌≡◌, ◌+◌, ◌++◌, length, string_bytes}
use Rattle.runner.specs.OutcomesText.{endings_text}
use Rattle.runner.proofs.explored.print_rank_ends.Given as goal

-- what is written and the ranks that are left are the whole
abbrev pub invariant-loop-rest : goal.invariant-loop-rest
invariant-loop-rest l = record {
  within : l.rank + length l.rest ≡ length l.ranks;
  whole : string_bytes l.text ++ endings_text l.rank l.rest ≡ string_bytes l.initial.text ++ endings_text 0 l.ranks;
}

abbrev pub decreases-loop-rest : goal.decreases-loop-rest
decreases-loop-rest l = length l.rest
