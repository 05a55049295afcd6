use Rattle.std.proofs.Common.{◌≡◌, ◌≢◌, ℕ}
use Rattle.audit.specs.Ahead.{Spends}
use Rattle.audit.specs.Audits.{GoesTo}
use Rattle.audit.specs.Rows.{row}
use Rattle.audit.proofs.auditor.Auditor.go_ahead.Given as goal

-- the rank went on with the steps that are made, and its events were taken
abbrev pub invariant-loop-now : goal.invariant-loop-now
invariant-loop-now l = record {
  goes : GoesTo l.initial.self.sim l.self.sim l.self.traces.items;
  spends : Spends l.rank l.left l.now l.initial.self.sim l.self.sim;
  taken : l.taken.items ≡ row l.self.sim.run l.rank;
  others : (q : ℕ) → q ≢ l.rank → row l.self.sim.run q ≡ row l.initial.self.sim.run q;
}

abbrev pub decreases-loop-now : goal.decreases-loop-now
decreases-loop-now l = l.now
