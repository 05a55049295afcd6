use Rattle.bare_world.proofs.Calls.SeatStays.{arrive_kept}
use Rattle.bare_world.proofs.seat.Seat.arrive.Goals as goal

-- src/seat/calling.rt
pub invariant_of-self : goal.invariant_of-self
invariant_of-self c =
    arrive_kept c.self.inside.program.now c.self.inside.rank c.self.inside.size c.self.inside.occupant c.in-Some.rank c.arrive.new.self c.args.from c.args.frame
    c.arrive.result c.self.invariant c.in-Some.is c.arrive.ensures.ok c.arrive.ensures.err
