use Rattle.std.proofs.Common.{◌≡◌, ap}
use Rattle.bare_world.specs.World.{Live}
use Rattle.bare_world.specs.Seats.{SeatsValue, IsAcked}
use Rattle.bare_world.proofs.Calls.RankOfEvent.{on_true, on_false}
use Rattle.bare_world.proofs.Lists.OfSeats.{IsTaken, taken, of_seat, change_there}
use Rattle.bare_world.proofs.seats.Seats.ack.Goals as goal

-- the seat is the rank's
seat : (c : goal.After-self-1) → IsTaken c.args.self.now c.self.inside.seats.items c.from.result c.args.rank c.index_mut.result.now
seat c = taken c.args.self.now _ c.self.inside.seats.items c.from.result c.args.rank c.index_mut.result.now
    c.self.view_is c.from.ensures c.requires.rank c.index_mut.ensures.value

-- src/seats/storing.rt
pub returns-clause-acked : goal.returns-clause-acked
returns-clause-acked c =
    on_true c.ack.result
    (λ h. change_there c.ack.new.self IsAcked (seat c) (ap (λ (z : SeatsValue). z.program) c.self.view_is) c.ack.ensures.others h)
    c.ack.ensures.acked

-- src/seats/storing.rt
pub returns-clause-none : goal.returns-clause-none
returns-clause-none c = on_false c.ack.result (λ h. of_seat (λ (v : Live). v.rank.stored ≡ 0) (seat c) h) c.ack.ensures.none
