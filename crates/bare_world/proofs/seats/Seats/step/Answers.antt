use Rattle.std.proofs.Common.{◌≡◌, true}
use Rattle.rank_node.specs.Steps.{takes_memory}
use Rattle.bare_world.specs.World.{Live}
use Rattle.bare_world.specs.Seats.{MakesStep}
use Rattle.bare_world.proofs.Lists.OfSeats.{IsTaken, taken, all_stay, asks_there, both_ok, call_there}
use Rattle.bare_world.proofs.seats.Seats.step.Goals as goal

-- the seat is the rank's
seat : (c : goal.After-self-1) → IsTaken c.args.self.now c.self.inside.seats.items c.from.result c.args.rank c.index_mut.result.now
seat c = taken c.args.self.now _ c.self.inside.seats.items c.from.result c.args.rank c.index_mut.result.now
    c.self.view_is c.from.ensures c.requires.rank c.index_mut.ensures.value

-- src/seats/stepping.rt
pub invariant_of-self : goal.invariant_of-self
invariant_of-self c = all_stay c.step.new.self (seat c) c.step.ensures.others c.self.invariant

-- src/seats/stepping.rt
pub returns-clause-ok : goal.returns-clause-ok
returns-clause-ok c =
    call_there c.step.result c.step.new.self (MakesStep c.args.console.now c.step.new.console) (λ (v : Live). takes_memory v.rank ≡ true)
    (seat c) c.self.view_is c.step.ensures.others (both_ok c.step.result _ _ _ c.step.ensures.turn c.step.ensures.ok)
    (asks_there c.step.result _ (seat c) c.step.ensures.memory) c.step.ensures.err
