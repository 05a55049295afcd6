use Rattle.std.proofs.Common.{◌↔◌, length}
use Rattle.explore.specs.Explored.{rank_outcomes}
use Rattle.run_events.specs.Halting.{AllHalt}
use Rattle.runner.proofs.explored.all_halt.Given as goal

-- all halt in those that are left if and only if all do in all
abbrev pub invariant-loop-rest : goal.invariant-loop-rest
invariant-loop-rest l = AllHalt (rank_outcomes l.rest) ↔ AllHalt l.found.outcomes

abbrev pub decreases-loop-rest : goal.decreases-loop-rest
decreases-loop-rest l = length l.rest
