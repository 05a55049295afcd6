use Rattle.std.proofs.Common.{arith}
use Rattle.audit.specs.Rows.{expand}
use Rattle.audit.proofs.GoingAhead.{begins_by}
use Rattle.audit.proofs.counts.ActCounts.begin_with.Goals as goal

pub returns-clause-yes : goal.returns-clause-yes
returns-clause-yes c = λ _.
    (let all = c.loop-done-test.false in
    begins_by c.args.others.now (expand c.args.events.now) (λ i low. c.loop-done.invariant.same i (omega (arith, low, all))))
