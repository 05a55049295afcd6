use Rattle.std.proofs.Common.{◌≡◌}
use Rattle.failed_allocations.proofs.replays.replay.Given as goal

-- the arrivals and steps leave which rank it is
abbrev pub invariant-loop-number : goal.invariant-loop-number
invariant-loop-number l = l.rank.node.stable ≡ l.initial.rank.node.stable
