use Rattle.std.proofs.Common.{refl}
use Rattle.explore.proofs.AtRest.{resting_beside}
use Rattle.explore.proofs.resting.RestingSim.act.Goals as goal

pub invariant_of-self-2 : goal.invariant_of-self-2
invariant_of-self-2 c =
    resting_beside c.self.inside.sim c.act.new.self c.args.rank c.args.choice c.acts.result.now c.self.inside.marks c.set.new.marks c.wake_receiver.new.marks
    c.in_ok-act.ensures.ok c.acts.ensures (c.set.ensures.own refl) c.set.ensures.others c.wake_receiver.ensures c.self.invariant
