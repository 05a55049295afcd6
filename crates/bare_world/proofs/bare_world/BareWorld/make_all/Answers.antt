use Rattle.std.proofs.Common.{length, ap, arith}
use Rattle.bare_world.specs.World.{WorldValue}
use Rattle.bare_world.proofs.Again.EachActIsMade.{make_all_next, make_last}
use Rattle.bare_world.proofs.bare_world.BareWorld.make_all.Goals as goal

-- src/bare_world/way/making.rt
pub loop-index-preserved : goal.loop-index-preserved
loop-index-preserved c =
    make_all_next _ _ _ _ _ _ _ _ _ _ _ c.loop-index.invariant.0 c.in_ok-rank.ensures.advanced c.in_ok-rank.ensures.made c.in_ok-rank.ensures.counted
    c.in_ok-flush_from.ensures.flushed c.in_ok-flush_from.ensures.emptied

-- src/bare_world/way/making.rt
pub returns-clause-ready : goal.returns-clause-ready
returns-clause-ready c =
    make_last _ _ _ _ _ c.loop-index.invariant.0
    (let e = c.len-index-end.ensures in
    let b = ap (λ (z : WorldValue). length z.run) c.self.view_is in
    let t = c.loop-index-test.false in
    omega (arith, e, b, t))
    c.loop-index.invariant.1
