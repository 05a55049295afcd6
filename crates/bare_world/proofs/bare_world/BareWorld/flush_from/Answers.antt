use Rattle.std.proofs.Common.{length, ap, arith}
use Rattle.bare_world.specs.World.{WorldValue}
use Rattle.bare_world.proofs.Again.Loops.{flush_next}
use Rattle.bare_world.proofs.bare_world.BareWorld.flush_from.Goals as goal

-- src/bare_world/way.rt
pub loop-dest-preserved : goal.loop-dest-preserved
loop-dest-preserved c =
    flush_next _ _ _ _ _ _ _ _ c.loop-dest.invariant.0 c.loop-dest.invariant.1 c.in_ok-flush.ensures.flushed c.in_ok-flush.ensures.emptied

-- src/bare_world/way.rt
pub returns-clause-emptied : goal.returns-clause-emptied
returns-clause-emptied c = λ d l.
    c.loop-dest.invariant.1 d
    (let a = c.loop-dest.invariant.0.advanced.same_size in
    let b = ap (λ (z : WorldValue). length z.ranks) c.self.view_is in
    let e = c.self.invariant.1 in
    let t = c.loop-dest-test.false in
    omega (arith, l, a, b, e, t))
