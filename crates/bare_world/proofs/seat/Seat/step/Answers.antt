use Rattle.std.proofs.Common.{Some, ap, ◌∙◌}
use Rattle.bare_world.proofs.Calls.SeatStays.{kept_step}
use Rattle.bare_world.proofs.seat.Seat.step.Goals as goal

-- src/seat/stepping.rt
pub invariant_of-self-2 : goal.invariant_of-self-2
invariant_of-self-2 c =
    let rank = c.in-Some-Running in
    kept_step c.self.inside.program.now c.self.inside.rank c.self.inside.size c.self.inside.occupant rank.running c.step_wanted-step.new.self c.self.invariant
    (rank.is ∙ ap Some rank.field-0-is) c.step_wanted-step.ensures.step.stable c.in-Ok.ensures.step.machine
