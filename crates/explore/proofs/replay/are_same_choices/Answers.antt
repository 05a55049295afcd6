use Rattle.std.proofs.Common.{arith}
use Rattle.explore.proofs.Among.{same_at_each}
use Rattle.explore.proofs.replay.are_same_choices.Goals as goal

pub returns : goal.returns
returns c = λ e. same_at_each c.args.choices.now c.args.others.now c.if-choices-others.false
    (λ i low. c.loop-at.invariant i (omega (arith, low, c.loop-at-test.false)))
