use Rattle.std.proofs.Common.{length, ap, arith}
use Rattle.bare_world.specs.World.{WorldValue}
use Rattle.bare_world.proofs.Again.Loops.{flush_all_next}
use Rattle.bare_world.proofs.bare_world.BareWorld.flush_all.Goals as goal

-- src/bare_world/way.rt
pub loop-source-preserved : goal.loop-source-preserved
loop-source-preserved c =
    flush_all_next _ _ _ _ _ _ _ c.loop-source.invariant.0 c.loop-source.invariant.1 c.in_ok-flush_from.ensures.flushed c.in_ok-flush_from.ensures.emptied

-- src/bare_world/way.rt
pub returns-clause-emptied : goal.returns-clause-emptied
returns-clause-emptied c = λ s d l m.
    c.loop-source.invariant.1 s d
    (let a = c.loop-source.invariant.0.advanced.same_size in
    let b = ap (λ (z : WorldValue). length z.ranks) c.self.view_is in
    let e = c.self.invariant.1 in
    let t = c.loop-source-test.false in
    omega (arith, l, a, b, e, t)) m
