use Rattle.std.proofs.Common.{subst}
use Rattle.explore.specs.Making.{HasEndedAt}
use Rattle.explore.proofs.AtRest.{ended_rests}
use Rattle.explore.proofs.steps.mark_ended.Goals as goal

pub mark-requires : goal.mark-requires
mark-requires c =
    ended_rests c.args.sim.now c.args.rank c.requires.stands
    (subst (λ z. HasEndedAt z.machines c.args.rank) c.as_sim.ensures (c.has_ended.ensures c.if-has_ended.true))
