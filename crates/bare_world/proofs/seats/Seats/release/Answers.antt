use Rattle.std.proofs.Common.{◌≡◌, []}
use Rattle.bare_world.specs.World.{Live}
use Rattle.bare_world.specs.Seats.{IsReleased}
use Rattle.bare_world.proofs.Calls.RankOfEvent.{on_err}
use Rattle.bare_world.proofs.Lists.OfSeats.{IsTaken, taken, all_stay, call_there, three_ok}
use Rattle.bare_world.proofs.seats.Seats.release.Goals as goal

-- the seat is the rank's
seat : (c : goal.After-self-1) → IsTaken c.args.self.now c.self.inside.seats.items c.from.result c.args.rank c.index_mut.result.now
seat c = taken c.args.self.now _ c.self.inside.seats.items c.from.result c.args.rank c.index_mut.result.now
    c.self.view_is c.from.ensures c.requires.rank c.index_mut.ensures.value

-- src/seats/storing.rt
pub invariant_of-self : goal.invariant_of-self
invariant_of-self c = all_stay c.release.new.self (seat c) c.release.ensures.others c.self.invariant

-- src/seats/storing.rt
pub returns-clause-ok : goal.returns-clause-ok
returns-clause-ok c =
    call_there c.release.result c.release.new.self (IsReleased c.args.console.now c.release.new.console) (λ (v : Live). v.left ≡ [])
    (seat c) c.self.view_is c.release.ensures.others
    (three_ok c.release.result _ _ _ _ c.release.ensures.clock c.release.ensures.ok c.release.ensures.shown)
    (on_err c.release.result _ c.requires.work) c.release.ensures.err
