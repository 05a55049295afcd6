use Rattle.std.proofs.Common.{◌≡◌, ◌+◌, length}
use Rattle.std.specs.List.{list_any}
use Rattle.explore.specs.Explored.{listed_left, rank_outcomes}
use Rattle.runner.specs.Waits.{some_wait, waits_somewhere}
use Rattle.runner.proofs.commands.waiting.waiting_at.Given as goal

-- none of those before
abbrev pub invariant-loop-rest : goal.invariant-loop-rest
invariant-loop-rest l = record {
  within : l.index + length (rank_outcomes l.rest) ≡ length l.found.outcomes;
  none : list_any some_wait (listed_left l.rest) ≡ waits_somewhere l.found;
}

abbrev pub decreases-loop-rest : goal.decreases-loop-rest
decreases-loop-rest l = length l.rest
