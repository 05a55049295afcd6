use Rattle.std.proofs.Common.{subst, arith}
use Rattle.bare_world.specs.Seats.{SeatsValue}
use Rattle.bare_world.specs.Stocked.{AreStocked}
use Rattle.bare_world.proofs.Way.AllIsAtHand.{seats_stocked}
use Rattle.bare_world.proofs.seats.Seats.law_stocked.Goals as goal

-- src/seats.rt
pub returns : goal.returns
returns c =
    subst (λ (z : SeatsValue). AreStocked z.program z.ranks z.images) c.self.view_is
    (seats_stocked c.self.inside.program.now c.self.inside.seats.items c.law_lines.ensures c.self.invariant
    (λ r s m e. c.loop-index.invariant r s (let n = c.len-index-end.ensures in let t = c.loop-index-test.false in omega (arith, m, n, t)) e))
