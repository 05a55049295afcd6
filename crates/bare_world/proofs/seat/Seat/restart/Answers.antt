use Rattle.bare_world.proofs.Calls.SeatStays.{own_down, seated_again}
use Rattle.bare_world.proofs.seat.Seat.restart.Goals as goal

-- src/seat/living.rt
pub invariant_of-self : goal.invariant_of-self
invariant_of-self c =
    seated_again c.self.inside.program.now c.self.inside.rank c.self.inside.size c.put.new.occupant c.in-Ok.rank
    (c.in-Ok.ensures.standing _ _ (own_down _ _ _ _ _ _ c.self.invariant c.take.ensures.rank c.crash-down.ensures)) c.in-Ok.ensures.left c.put.ensures
