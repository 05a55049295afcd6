use Rattle.std.proofs.Common.{◌≡◌, ◌+◌, ◌++◌, length, string_bytes}
use Rattle.explore.specs.Explored.{rank_outcomes}
use Rattle.runner.specs.Unhalted.{unhalted_text}
use Rattle.runner.proofs.explored.unhalted.print_unhalted.Given as goal

-- what is written and the outcomes that are left are the whole
abbrev pub invariant-loop-rest : goal.invariant-loop-rest
invariant-loop-rest l = record {
  within : l.index + length l.rest ≡ length l.outcomes;
  whole : string_bytes l.text ++ unhalted_text l.synchronous l.left l.index (rank_outcomes l.rest)
      ≡ string_bytes l.initial.text ++ unhalted_text l.synchronous l.left 0 (rank_outcomes l.outcomes);
}

abbrev pub decreases-loop-rest : goal.decreases-loop-rest
decreases-loop-rest l = length l.rest
