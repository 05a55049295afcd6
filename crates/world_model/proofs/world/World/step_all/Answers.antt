use Rattle.std.proofs.Common.{refl, arith}
use Rattle.bare_world.specs.Finished.{below, StepsInVain}
use Rattle.bare_world.proofs.Calls.RankOfEvent.{on_err}
use Rattle.bare_world.proofs.Ending.IsPlayedOn.{played_same, one_step, one_each, one_then}
use Rattle.bare_world.proofs.Ending.Rounds.{turns_next}
use Rattle.bare_world.proofs.Ending.TriedInVain.{tried_nothing, each_next, each_all}
use Rattle.world_model.proofs.world.World.step_all.Goals as goal

-- src/world/finishing.rt
pub returns-in_err-step_rank-clause-err : goal.returns-in_err-step_rank-clause-err
returns-in_err-step_rank-clause-err c =
    on_err _ _ (one_then _ _ _ _ _ _ _ c.loop-rank.invariant.0 c.in_err-step_rank.ensures.err)

-- src/world/finishing.rt
pub returns-clause-ok : goal.returns-clause-ok
returns-clause-ok c =
    one_each _ _ _ _ _ c.loop-rank.invariant.0

-- src/world/finishing.rt
pub loop-rank-init : goal.loop-rank-init
loop-rank-init c = (played_same (below 0) _ _ _ _ refl refl, tried_nothing StepsInVain _ _, λ r l. absurd (omega (arith, l)))

-- src/world/finishing.rt
pub loop-rank-preserved : goal.loop-rank-preserved
loop-rank-preserved c = (
  one_step _ _ _ _ _ _ _ c.loop-rank.invariant.0 c.in_ok-step_rank.ensures.ok,
  each_next StepsInVain _ _ _ _ _ _ _ c.loop-rank.invariant.1 c.in_ok-step_rank.ensures.tried,
  turns_next _ _ _ _ _ _ _ _ _ c.loop-rank.invariant.0 c.loop-rank.invariant.2 c.in_ok-step_rank.ensures.ok c.in_ok-step_rank.ensures.turn,
)

-- src/world/finishing.rt
pub returns-clause-tried : goal.returns-clause-tried
returns-clause-tried c =
    each_all StepsInVain _ _ _ _ _
    (let a = c.loop-rank.invariant.0.same_size in
    let e = c.ranks-rank-end.ensures in
    let t = c.loop-rank-test.false in
    omega (arith, a, e, t)) c.loop-rank.invariant.1

-- src/world/finishing.rt
pub returns-clause-turns : goal.returns-clause-turns
returns-clause-turns c =
    λ r l. c.loop-rank.invariant.2 r
    (let e = c.ranks-rank-end.ensures in
    let t = c.loop-rank-test.false in
    omega (arith, l, e, t))
