use Rattle.std.proofs.Common.{arith}
use Rattle.std.proofs.lemmas.Bool.{OnTrue_at}
use Rattle.bare_world.proofs.Ending.QuietRanks.{rest_next}
use Rattle.world_model.proofs.world.World.restless.Goals as goal

-- src/world/finishing/resting.rt
pub loop-rank-preserved : goal.loop-rank-preserved
loop-rank-preserved c = rest_next _ _ _ c.self.view_is c.loop-rank.invariant (OnTrue_at c.if-not-rests.false c.rests.ensures.yes)

-- src/world/finishing/resting.rt
pub returns-clause-none : goal.returns-clause-none
returns-clause-none c =
    λ r l. c.loop-rank.invariant r
    (let e = c.ranks-rank-end.ensures in
    let t = c.loop-rank-test.false in
    omega (arith, l, e, t))
