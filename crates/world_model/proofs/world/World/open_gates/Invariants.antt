use Rattle.bare_world.specs.Finished.{Played, no_steps, Tried, EachBelow, OpensInVain}
use Rattle.world_model.proofs.world.World.open_gates.Given as goal

abbrev pub invariant-loop-rank : goal.invariant-loop-rank
invariant-loop-rank l =
    Played no_steps l.fn.self l.fn.events.items l.self l.events.items
    × Tried (EachBelow l.rank OpensInVain) l.fn.self l.fn.events.items l.self l.events.items
