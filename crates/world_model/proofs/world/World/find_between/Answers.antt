use Rattle.std.proofs.Common.{length, refl, ap, arith}
use Rattle.bare_world.specs.Finished.{no_steps, ArrivesInVain}
use Rattle.bare_world.proofs.Calls.RankOfEvent.{on_err}
use Rattle.bare_world.proofs.Ending.IsPlayedOn.{played_same, quiet_last, quiet_then}
use Rattle.bare_world.proofs.Ending.TriedInVain.{tried_nothing, each_next, wire_all}
use Rattle.world_model.proofs.world.World.find_between.Goals as goal

-- src/world/finishing.rt
pub returns-in_err-find_at-clause-err : goal.returns-in_err-find_at-clause-err
returns-in_err-find_at-clause-err c =
    on_err _ _ (quiet_then no_steps _ _ _ _ _ _ c.loop-index.invariant.0 c.in_err-find_at.ensures.err)

-- src/world/finishing.rt
pub loop-index-init : goal.loop-index-init
loop-index-init c = (played_same no_steps _ _ _ _ refl refl, tried_nothing (ArrivesInVain c.args.source c.args.dest) _ _)

-- src/world/finishing.rt
pub loop-index-preserved : goal.loop-index-preserved
loop-index-preserved c = (
  quiet_last no_steps _ _ _ _ _ _ c.loop-index.invariant.0 c.in_ok-find_at.ensures.ok,
  each_next (ArrivesInVain c.args.source c.args.dest) _ _ _ _ _ _ _ c.loop-index.invariant.1 c.in_ok-find_at.ensures.tried,
)

-- src/world/finishing.rt
pub returns-clause-tried : goal.returns-clause-tried
returns-clause-tried c =
    wire_all c.args.source c.args.dest _ _ _ _ _
    (let e = ap length c.frames-index-end.ensures in
    let t = c.loop-index-test.false in
    omega (arith, e, t)) c.loop-index.invariant.1
