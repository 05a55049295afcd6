use Rattle.std.proofs.Common.{subst}
use Rattle.std.specs.List.{AllZip}
use Rattle.bare_world.specs.Copied.{IsSeatCopy}
use Rattle.bare_world.proofs.Alike.Copies.{are_seats}
use Rattle.bare_world.proofs.seats.Seats.copy.Goals as goal

-- src/seats/copying.rt
pub invariant_of-result : goal.invariant_of-result
invariant_of-result c =
    are_seats c.self.inside.program.now c.self.inside.seats.items c.in_ok-seats.seats.items c.self.invariant
    (subst (λ z. AllZip IsSeatCopy z c.in_ok-seats.seats.items) c.deref.ensures.value c.in_ok-seats.ensures)
