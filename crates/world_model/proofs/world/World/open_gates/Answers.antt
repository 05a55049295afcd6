use Rattle.std.proofs.Common.{refl, arith}
use Rattle.bare_world.specs.Finished.{no_steps, OpensInVain}
use Rattle.bare_world.proofs.Calls.RankOfEvent.{on_err}
use Rattle.bare_world.proofs.Ending.IsPlayedOn.{played_same, quiet_last, quiet_then}
use Rattle.bare_world.proofs.Ending.TriedInVain.{tried_nothing, each_next, each_all}
use Rattle.world_model.proofs.world.World.open_gates.Goals as goal

-- src/world/finishing.rt
pub returns-in_err-open_gate-clause-err : goal.returns-in_err-open_gate-clause-err
returns-in_err-open_gate-clause-err c =
    on_err _ _ (quiet_then no_steps _ _ _ _ _ _ c.loop-rank.invariant.0 c.in_err-open_gate.ensures.err)

-- src/world/finishing.rt
pub loop-rank-init : goal.loop-rank-init
loop-rank-init c = (played_same no_steps _ _ _ _ refl refl, tried_nothing OpensInVain _ _)

-- src/world/finishing.rt
pub loop-rank-preserved : goal.loop-rank-preserved
loop-rank-preserved c = (
  quiet_last no_steps _ _ _ _ _ _ c.loop-rank.invariant.0 c.in_ok-open_gate.ensures.ok,
  each_next OpensInVain _ _ _ _ _ _ _ c.loop-rank.invariant.1 c.in_ok-open_gate.ensures.tried,
)

-- src/world/finishing.rt
pub returns-clause-tried : goal.returns-clause-tried
returns-clause-tried c =
    each_all OpensInVain _ _ _ _ _
    (let a = c.loop-rank.invariant.0.same_size in
    let e = c.ranks-rank-end.ensures in
    let t = c.loop-rank-test.false in
    omega (arith, a, e, t)) c.loop-rank.invariant.1
