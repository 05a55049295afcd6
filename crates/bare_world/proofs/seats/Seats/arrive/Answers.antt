use Rattle.std.proofs.Common.{◌≡◌}
use Rattle.rank_node.specs.Frames.{arrival_of}
use Rattle.rank_node.specs.declared.turn.Arrived.TheVariants as arrived
use Rattle.bare_world.specs.World.{Live}
use Rattle.bare_world.specs.Seats.{Arrives}
use Rattle.bare_world.proofs.Lists.OfSeats.{IsTaken, taken, all_stay, asks_there, both_ok, call_there}
use Rattle.bare_world.proofs.seats.Seats.arrive.Goals as goal

-- the seat is the rank's
seat : (c : goal.After-self-1) → IsTaken c.args.self.now c.self.inside.seats.items c.from.result c.args.rank c.index_mut.result.now
seat c = taken c.args.self.now _ c.self.inside.seats.items c.from.result c.args.rank c.index_mut.result.now
    c.self.view_is c.from.ensures c.requires.rank c.index_mut.ensures.value

-- src/seats/framing.rt
pub invariant_of-self : goal.invariant_of-self
invariant_of-self c = all_stay c.arrive.new.self (seat c) c.arrive.ensures.others c.self.invariant

-- src/seats/framing.rt
pub returns : goal.returns
returns c =
    call_there c.arrive.result c.arrive.new.self (Arrives c.args.from c.args.frame) (λ (v : Live). arrival_of v.rank c.args.from c.args.frame ≡ arrived.Accepted)
    (seat c) c.self.view_is c.arrive.ensures.others (both_ok c.arrive.result _ _ _ c.arrive.ensures.answer c.arrive.ensures.ok)
    (asks_there c.arrive.result _ (seat c) c.arrive.ensures.accepted_only) c.arrive.ensures.err
