use Rattle.std.proofs.Common.{◌≡◌, []}
use Rattle.bare_world.specs.World.{Live}
use Rattle.bare_world.specs.Seats.{IsStored}
use Rattle.bare_world.proofs.Calls.RankOfEvent.{on_err}
use Rattle.bare_world.proofs.Lists.OfSeats.{IsTaken, taken, all_stay, both_ok, call_there}
use Rattle.bare_world.proofs.seats.Seats.store.Goals as goal

-- the seat is the rank's
seat : (c : goal.After-self-1) → IsTaken c.args.self.now c.self.inside.seats.items c.from.result c.args.rank c.index_mut.result.now
seat c = taken c.args.self.now _ c.self.inside.seats.items c.from.result c.args.rank c.index_mut.result.now
    c.self.view_is c.from.ensures c.requires.rank c.index_mut.ensures.value

-- src/seats/storing.rt
pub invariant_of-self : goal.invariant_of-self
invariant_of-self c = all_stay c.store.new.self (seat c) c.store.ensures.others c.self.invariant

-- src/seats/storing.rt
pub returns-clause-ok : goal.returns-clause-ok
returns-clause-ok c =
    call_there c.store.result c.store.new.self (IsStored c.args.logger.now c.store.new.logger) (λ (v : Live). v.left ≡ [])
    (seat c) c.self.view_is c.store.ensures.others (both_ok c.store.result _ _ _ c.store.ensures.row c.store.ensures.ok)
    (on_err c.store.result _ c.requires.work) c.store.ensures.err
