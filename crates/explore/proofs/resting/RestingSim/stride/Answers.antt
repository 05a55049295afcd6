use Rattle.std.proofs.Common.{refl}
use Rattle.explore.proofs.AtRest.{resting_inside}
use Rattle.explore.proofs.resting.RestingSim.stride.Goals as goal

pub invariant_of-self : goal.invariant_of-self
invariant_of-self c =
    resting_inside c.self.inside.sim c.stride-made.new.self c.args.rank c.stride-made.result c.self.inside.marks c.set.new.marks c.stride-made.ensures.inside
    (c.set.ensures.own refl) c.set.ensures.others c.self.invariant
