use Rattle.bare_world.proofs.Calls.SeatStays.{own_down, seated_down}
use Rattle.bare_world.proofs.seat.Seat.crash.Goals as goal

-- src/seat/living.rt
pub invariant_of-self : goal.invariant_of-self
invariant_of-self c =
    seated_down _ _ _ _ c.crash-crashed.result (own_down _ _ _ _ _ _ c.self.invariant c.take.ensures.rank c.crash-crashed.ensures) c.put.ensures
