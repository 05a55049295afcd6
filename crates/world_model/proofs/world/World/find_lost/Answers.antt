use Rattle.std.proofs.Common.{refl, arith}
use Rattle.bare_world.specs.Finished.{ForEach, no_steps, FindsInVain}
use Rattle.bare_world.proofs.Calls.RankOfEvent.{on_err}
use Rattle.bare_world.proofs.Ending.IsPlayedOn.{played_same, quiet_last, quiet_then}
use Rattle.bare_world.proofs.Ending.TriedInVain.{tried_nothing, row_first, row_next, row_all, each_all}
use Rattle.world_model.proofs.world.World.find_lost.Goals as goal

-- src/world/finishing.rt
pub returns-in_err-find_between-clause-err : goal.returns-in_err-find_between-clause-err
returns-in_err-find_between-clause-err c =
    on_err _ _ (quiet_then no_steps _ _ _ _ _ _ c.loop-dest.invariant.0 c.in_err-find_between.ensures.err)

-- src/world/finishing.rt
pub loop-source-init : goal.loop-source-init
loop-source-init c = (played_same no_steps _ _ _ _ refl refl, tried_nothing (λ s. ForEach (FindsInVain s)) _ _)

-- src/world/finishing.rt
pub loop-dest-init : goal.loop-dest-init
loop-dest-init c = (c.loop-source.invariant.0, row_first FindsInVain _ _ _ _ _ c.loop-source.invariant.1)

-- src/world/finishing.rt
pub loop-dest-preserved : goal.loop-dest-preserved
loop-dest-preserved c = (
  quiet_last no_steps _ _ _ _ _ _ c.loop-dest.invariant.0 c.in_ok-find_between.ensures.ok,
  row_next FindsInVain _ _ _ _ _ _ _ _ c.loop-dest.invariant.1 c.in_ok-find_between.ensures.tried,
)

-- src/world/finishing.rt
pub loop-source-preserved : goal.loop-source-preserved
loop-source-preserved c = (
  c.loop-dest.invariant.0,
  row_all FindsInVain _ _ _ _ _ _
      (let a = c.loop-dest.invariant.0.same_size in
      let b = c.loop-source.invariant.0.same_size in
      let e = c.ranks-dest-end.ensures in
      let t = c.loop-dest-test.false in
      omega (arith, a, b, e, t)) c.loop-dest.invariant.1,
)

-- src/world/finishing.rt
pub returns-clause-tried : goal.returns-clause-tried
returns-clause-tried c =
    each_all (λ s. ForEach (FindsInVain s)) _ _ _ _ _
    (let a = c.loop-source.invariant.0.same_size in
    let e = c.ranks-source-end.ensures in
    let t = c.loop-source-test.false in
    omega (arith, a, e, t)) c.loop-source.invariant.1
