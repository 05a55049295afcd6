use Rattle.std.proofs.Common.{ap}
use Rattle.bare_world.specs.Seats.{SeatsValue, HasGone}
use Rattle.bare_world.proofs.Lists.OfSeats.{IsTaken, taken, change_there}
use Rattle.bare_world.proofs.seats.Seats.passed.Goals as goal

-- the seat is the rank's
seat : (c : goal.After-self-1) → IsTaken c.args.self.now c.self.inside.seats.items c.from.result c.args.rank c.index_mut.result.now
seat c = taken c.args.self.now _ c.self.inside.seats.items c.from.result c.args.rank c.index_mut.result.now
    c.self.view_is c.from.ensures c.requires.rank c.index_mut.ensures.value

-- src/seats/framing.rt
pub returns : goal.returns
returns c =
    change_there c.passed.new.self (HasGone c.args.dest) (seat c) (ap (λ (z : SeatsValue). z.program) c.self.view_is) c.passed.ensures.others
    c.passed.ensures.passed
