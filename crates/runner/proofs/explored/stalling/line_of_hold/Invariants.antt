use Rattle.std.proofs.Common.{◌≡◌, length}
use Rattle.runner.specs.Stalls.{line_of_hold}
use Rattle.runner.proofs.explored.stalling.line_of_hold.Given as goal

-- the message is among those that are left
abbrev pub invariant-loop-rest : goal.invariant-loop-rest
invariant-loop-rest l = line_of_hold l.rest l.rank ≡ line_of_hold l.left l.rank

abbrev pub decreases-loop-rest : goal.decreases-loop-rest
decreases-loop-rest l = length l.rest
