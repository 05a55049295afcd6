use Rattle.std.proofs.Common.{arith}
use Rattle.explore.proofs.Among.{same_at_each}
use Rattle.explore.proofs.explored.are_same_messages.Goals as goal

pub returns-clause-yes : goal.returns-clause-yes
returns-clause-yes c = λ e. same_at_each c.args.messages.now c.args.others.now c.if-messages-others.false
    (λ i low. c.loop-at.invariant i (omega (arith, low, c.loop-at-test.false)))
