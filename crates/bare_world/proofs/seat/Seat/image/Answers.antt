use Rattle.std.proofs.Common.{Some, ap, ◌∙◌}
use Rattle.bare_world.proofs.Calls.SeatStays.{of_image, as_running}
use Rattle.bare_world.proofs.seat.Seat.image.Goals as goal

-- src/seat/imaging.rt
pub invariant_of-self : goal.invariant_of-self
invariant_of-self c =
    let rank = c.in-Some-Running in
    record {
      standing = of_image _ _ _ rank.running c.image-imaged.new.self c.in_default.ensures.ok
          (as_running _ _ _ c.self.inside.occupant rank.running c.self.invariant (rank.is ∙ ap Some rank.field-0-is));
      left = tt;
    }
