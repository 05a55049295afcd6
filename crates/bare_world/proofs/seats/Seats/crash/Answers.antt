use Rattle.std.proofs.Common.{ap, ◌∙◌, slice_set}
use Rattle.bare_world.specs.Seats.{SeatValue, SeatsValue}
use Rattle.bare_world.proofs.Lists.OfSeats.{IsTaken, taken, ranks_then, same_images}
use Rattle.bare_world.proofs.seats.Seats.crash.Goals as goal

-- the seat is the rank's
seat : (c : goal.After-self-1) → IsTaken c.args.self.now c.self.inside.seats.items c.from.result c.args.rank c.index_mut.result.now
seat c = taken c.args.self.now _ c.self.inside.seats.items c.from.result c.args.rank c.index_mut.result.now
    c.self.view_is c.from.ensures c.requires c.index_mut.ensures.value

-- src/seats/living.rt
pub returns : goal.returns
returns c =
    record {
      ranks = ranks_then c.crash.new.self (seat c) ∙ ap (λ (z : SeatValue). slice_set c.args.self.now.ranks c.args.rank z.live) c.crash.ensures;
      program = ap (λ (z : SeatsValue). z.program) c.self.view_is;
      images = same_images _ _ _ c.crash.new.self (seat c).there (ap (λ (z : SeatValue). z.image) c.crash.ensures) ∙ (seat c).all_images;
    }
