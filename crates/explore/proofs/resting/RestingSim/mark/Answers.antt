use Rattle.std.proofs.Common.{sym, subst}
use Rattle.explore.specs.Resting.{Rests}
use Rattle.explore.proofs.AtRest.{resting_more}
use Rattle.explore.proofs.resting.RestingSim.mark.Goals as goal

pub invariant_of-self : goal.invariant_of-self
invariant_of-self c =
    resting_more c.self.inside.sim c.args.rank c.self.inside.marks c.set.new.marks (subst (λ z. Rests z c.args.rank) (sym c.self.view_is) c.requires)
    c.set.ensures.others c.self.invariant
