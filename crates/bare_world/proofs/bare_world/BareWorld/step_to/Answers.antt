use Rattle.std.proofs.Common.{inl, arith}
use Rattle.bare_world.proofs.Again.Calls.{advanced_none}
use Rattle.bare_world.proofs.Again.EachActIsMade.{step_next, near_made, nears_first}
use Rattle.bare_world.proofs.bare_world.BareWorld.step_to.Goals as goal

-- src/bare_world/way/making.rt
pub loop-step-init : goal.loop-step-init
loop-step-init g c = (
  advanced_none c.args.self.now c.args.events.now.items c.requires.ready.is_world,
  inl (
    c.requires.ready,
    nears_first c.args.self.now c.args.rank _ c.args.ahead.now.steps.0 g.K.Stand.machine c.args.ahead.now.steps.1 c.requires.machine
        c.requires.lines,
  ),
)

-- src/bare_world/way/making.rt
pub loop-step-preserved : goal.loop-step-preserved
loop-step-preserved g c =
    let l = c.requires.rank in
    let n = c.loop-step.invariant.0.same_size in
    let s = step_next _ _ _ _ _ _ _ _ c.requires.next c.requires.count (omega (arith, l, n)) c.loop-step.invariant.0 c.view.ensures _ _ _ _ _
    c.from.ensures c.loop-step.invariant.1 c.loop-step-test.true c.in_ok-drive.ensures.follows c.in_ok-drive.ensures.list in
    (s.0, s.1)

-- src/bare_world/way/making.rt
pub loop-step-smaller : goal.loop-step-smaller
loop-step-smaller g c =
    let l = c.requires.rank in
    let n = c.loop-step.invariant.0.same_size in
    let s = step_next _ _ _ _ _ _ _ _ c.requires.next c.requires.count (omega (arith, l, n)) c.loop-step.invariant.0 c.view.ensures _ _ _ _ _
    c.from.ensures c.loop-step.invariant.1 c.loop-step-test.true c.in_ok-drive.ensures.follows c.in_ok-drive.ensures.list in
    s.2

-- src/bare_world/way/making.rt
pub returns-clause-made : goal.returns-clause-made
returns-clause-made g c =
    let l = c.requires.rank in
    let n = c.loop-step.invariant.0.same_size in
    near_made _ _ _ _ _ _ _ _ c.requires.next c.requires.count (omega (arith, l, n)) c.loop-step.invariant.0 c.view.ensures _ c.loop-step.invariant.1
    c.loop-step-test.false
