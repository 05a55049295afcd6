use Rattle.std.proofs.Common.{ℕ, ◌<◌, ◌≤◌, ◌-◌}
use Rattle.explore.specs.Sending.{AreReceivedBy}
use Rattle.explore.proofs.released.are_received.Given as goal

-- those to the receivers so far are received
abbrev pub invariant-loop-receiver : goal.invariant-loop-receiver
invariant-loop-receiver l = record {
  few : l.receiver ≤ l.ranks;
  received : (q : ℕ) → q < l.receiver → AreReceivedBy l.sim.run l.rank q;
}

abbrev pub decreases-loop-receiver : goal.decreases-loop-receiver
decreases-loop-receiver l = l.ranks - l.receiver
