use Rattle.std.proofs.Common.{refl, arith}
use Rattle.bare_world.specs.Finished.{for_all}
use Rattle.bare_world.proofs.Ending.IsPlayedOn.{played_same, played_more}
use Rattle.bare_world.proofs.Ending.Rounds.{rounds_none, rounds_played}
use Rattle.world_model.proofs.world.World.play_rounds.Goals as goal

-- src/world/finishing.rt
pub loop-init : goal.loop-init
loop-init c = (played_same (for_all 0) _ _ _ _ refl refl, rounds_none _ _)

-- src/world/finishing.rt
pub returns-then-len-before-clause-ok : goal.returns-then-len-before-clause-ok
returns-then-len-before-clause-ok c =
    played_more (for_all c.loop.counter) (for_all 1) (for_all c.args.rounds) _ _ _ _ _ _
    (λ r.
    (let t = c.loop-test.true in
    omega (arith, t)))
    c.loop.invariant.0 c.in_ok-play_round.ensures.ok

-- src/world/finishing.rt
pub loop-preserved : goal.loop-preserved
loop-preserved c =
    rounds_played _ _ _ _ _ _ _ c.loop.invariant c.in_ok-play_round.ensures.ok
    (c.in_ok-play_round.ensures.round
    (let a = c.len-before.ensures in
    let b = c.len.ensures in
    let t = c.if-len-before.false in
    omega (arith, a, b, t)))
