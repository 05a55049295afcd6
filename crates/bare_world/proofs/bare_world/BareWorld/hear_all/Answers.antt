use Rattle.std.proofs.Common.{length, ap, arith}
use Rattle.bare_world.specs.World.{WorldValue}
use Rattle.bare_world.proofs.Way.EachAskIsHeard.{hear_all_next}
use Rattle.bare_world.proofs.bare_world.BareWorld.hear_all.Goals as goal

-- src/bare_world/way/hearing.rt
pub loop-source-preserved : goal.loop-source-preserved
loop-source-preserved c =
    hear_all_next _ _ _ _ _ _ _ c.loop-source.invariant.0 c.loop-source.invariant.1 c.in_ok-hear_from.ensures.listened c.in_ok-hear_from.ensures.heard

-- src/bare_world/way/hearing.rt
pub returns-clause-heard : goal.returns-clause-heard
returns-clause-heard c = λ r s l m.
    c.loop-source.invariant.1 r s
    (let a = c.loop-source.invariant.0.advanced.same_size in
    let b = ap (λ (z : WorldValue). length z.ranks) c.self.view_is in
    let e = c.self.invariant.1 in
    let t = c.loop-source-test.false in
    omega (arith, l, a, b, e, t)) m
