use Rattle.std.proofs.Common.{arith}
use Rattle.audit.proofs.GoingAhead.{begins_by}
use Rattle.audit.proofs.lines.begin_with.Goals as goal

pub returns-clause-yes : goal.returns-clause-yes
returns-clause-yes c = λ _.
    (let done = c.loop-at-test.false in
    begins_by c.args.others.now c.args.lines.now (λ i low. c.loop-at.invariant.same i (omega (arith, low, done))))
