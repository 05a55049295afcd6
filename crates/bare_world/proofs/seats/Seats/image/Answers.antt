use Rattle.std.proofs.Common.{ap}
use Rattle.std.proofs.lemmas.Result.{on_ok_weaker}
use Rattle.bare_world.specs.Seats.{SeatsValue}
use Rattle.bare_world.proofs.Lists.OfSeats.{IsTaken, taken, imaged_then}
use Rattle.bare_world.proofs.seats.Seats.image.Goals as goal

-- the seat is the rank's
seat : (c : goal.After-self-1) → IsTaken c.args.self.now c.self.inside.seats.items c.from.result c.args.rank c.index_mut.result.now
seat c = taken c.args.self.now _ c.self.inside.seats.items c.from.result c.args.rank c.index_mut.result.now
    c.self.view_is c.from.ensures c.requires.rank c.index_mut.ensures.value

-- src/seats/imaging.rt
pub returns-clause-ok : goal.returns-clause-ok
returns-clause-ok c =
    on_ok_weaker c.image.result
    (λ h. imaged_then c.image.new.self (ap (λ (z : SeatsValue). z.program) c.self.view_is) (seat c) c.self.invariant h)
    c.image.ensures.ok
