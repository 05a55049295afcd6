use Rattle.std.proofs.Common.{ap}
use Rattle.bare_world.specs.Seats.{SeatsValue}
use Rattle.bare_world.proofs.Lists.OfSeats.{IsTaken, taken, restart_there, uncut_there}
use Rattle.bare_world.proofs.seats.Seats.restart.Goals as goal

-- the seat is the rank's
seat : (c : goal.After-self-1) → IsTaken c.args.self.now c.self.inside.seats.items c.from.result c.args.rank c.index_mut.result.now
seat c = taken c.args.self.now _ c.self.inside.seats.items c.from.result c.args.rank c.index_mut.result.now
    c.self.view_is c.from.ensures c.requires.rank c.index_mut.ensures.value

-- src/seats/living.rt
pub restart-requires-clause-uncut : goal.restart-requires-clause-uncut
restart-requires-clause-uncut c =
    uncut_there _ c.args.row.items (ap (λ (z : SeatsValue). z.program) c.self.view_is)
    (taken c.args.self.now _ c.self.inside.seats.items c.from.result c.args.rank c.index_mut.result.now
    c.self.view_is c.from.ensures c.requires.rank c.index_mut.ensures.value) c.self.invariant c.requires.uncut

-- src/seats/living.rt
pub returns-clause-ok : goal.returns-clause-ok
returns-clause-ok c =
    restart_there c.restart.result c.restart.new.self c.args.row.items (seat c) (ap (λ (z : SeatsValue). z.program) c.self.view_is) c.self.invariant
    c.restart.ensures.others c.restart.ensures.count c.restart.ensures.ok
