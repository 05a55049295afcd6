use Rattle.std.proofs.Common.{length, ap, arith}
use Rattle.bare_world.specs.World.{WorldValue}
use Rattle.bare_world.proofs.Way.EachAskIsHeard.{hear_from_next}
use Rattle.bare_world.proofs.bare_world.BareWorld.hear_from.Goals as goal

-- src/bare_world/way/hearing.rt
pub loop-dest-preserved : goal.loop-dest-preserved
loop-dest-preserved c =
    hear_from_next _ _ _ _ _ _ _ _ c.loop-dest.invariant.0 c.loop-dest.invariant.1 c.in_ok-hear.ensures.listened c.in_ok-hear.ensures.heard

-- src/bare_world/way/hearing.rt
pub returns-clause-heard : goal.returns-clause-heard
returns-clause-heard c = λ s l.
    c.loop-dest.invariant.1 s
    (let a = c.loop-dest.invariant.0.advanced.same_size in
    let b = ap (λ (z : WorldValue). length z.ranks) c.self.view_is in
    let e = c.self.invariant.1 in
    let t = c.loop-dest-test.false in
    omega (arith, l, a, b, e, t))
