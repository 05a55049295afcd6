use Rattle.bare_world.proofs.Alike.Copies.{kept_copy}
use Rattle.bare_world.proofs.seat.Seat.copy.Goals as goal

-- src/seat/copying.rt
pub invariant_of-result : goal.invariant_of-result
invariant_of-result c =
    kept_copy c.self.inside.program.now c.self.inside.rank c.self.inside.size c.self.inside.occupant c.in-Some.rank c.in_ok-copied.field-0
    c.self.invariant c.in-Some.is c.in_ok-copied.ensures
