use Rattle.std.proofs.Common.{◌≡◌}
use Rattle.explore.proofs.silences.silence.Silence.drop_some.Given as goal

abbrev pub invariant-loop-position : goal.invariant-loop-position
invariant-loop-position l = record {
  same : l.self.sought ≡ l.fn.self.sought;
}

abbrev pub decreases-loop-position : goal.decreases-loop-position
decreases-loop-position l = l.position
