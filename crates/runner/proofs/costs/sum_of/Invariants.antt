use Rattle.std.proofs.Common.{◌≡◌}
use Rattle.runner.specs.CostsText.{sum_below}
use Rattle.runner.proofs.costs.sum_of.Given as goal

-- the ranks so far are summed up
abbrev pub invariant-loop-rank : goal.invariant-loop-rank
invariant-loop-rank l = l.sum ≡ sum_below l.rank l.report
