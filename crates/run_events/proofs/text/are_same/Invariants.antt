use Rattle.std.proofs.Common.{◌≡◌, length}
use Rattle.run_events.proofs.text.are_same.Given as goal

-- it comes down to those that are left
abbrev pub invariant-loop-rest : goal.invariant-loop-rest
invariant-loop-rest l = l.rest ≡ l.left → l.events ≡ l.others

abbrev pub decreases-loop-rest : goal.decreases-loop-rest
decreases-loop-rest l = length l.rest
