use Rattle.std.proofs.Common.{◌≡◌, true}
use Rattle.rank_node.specs.Replay.{replay_takes_memory}
use Rattle.bare_world.specs.World.{Live}
use Rattle.bare_world.specs.Seats.{ReplaysStep}
use Rattle.bare_world.proofs.Lists.OfSeats.{IsTaken, taken, all_stay, asks_there, both_ok, call_there}
use Rattle.bare_world.proofs.seats.Seats.replay.Goals as goal

-- the seat is the rank's
seat : (c : goal.After-self-1) → IsTaken c.args.self.now c.self.inside.seats.items c.from.result c.args.rank c.index_mut.result.now
seat c = taken c.args.self.now _ c.self.inside.seats.items c.from.result c.args.rank c.index_mut.result.now
    c.self.view_is c.from.ensures c.requires.rank c.index_mut.ensures.value

-- src/seats/stepping.rt
pub invariant_of-self : goal.invariant_of-self
invariant_of-self c = all_stay c.replay.new.self (seat c) c.replay.ensures.others c.self.invariant

-- src/seats/stepping.rt
pub returns-clause-ok : goal.returns-clause-ok
returns-clause-ok c =
    call_there c.replay.result c.replay.new.self (ReplaysStep c.args.console.now c.replay.new.console) (λ (v : Live). replay_takes_memory v.rank ≡ true)
    (seat c) c.self.view_is c.replay.ensures.others (both_ok c.replay.result _ _ _ c.replay.ensures.ok c.replay.ensures.shown)
    (asks_there c.replay.result _ (seat c) c.replay.ensures.memory) c.replay.ensures.err
