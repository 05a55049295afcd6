use Rattle.std.proofs.Common.{◌≤◌, sum}
use Rattle.explore.specs.Counts.{KeepsCount}
use Rattle.explore.specs.Making.{LeadsTo}
use Rattle.explore.proofs.steps.advance.Given as goal

-- what is made so far leads on, and is counted
abbrev pub invariant-loop : goal.invariant-loop
invariant-loop l =
    LeadsTo l.mode l.initial.sim l.sim × (sum l.left ≤ sum l.initial.left) × KeepsCount l.initial.sim l.initial.left l.sim l.left

abbrev pub decreases-loop : goal.decreases-loop
decreases-loop l = sum l.left
