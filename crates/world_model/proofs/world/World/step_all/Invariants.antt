use Rattle.bare_world.specs.Finished.{Played, below, Tried, EachBelow, StepsInVain}
use Rattle.bare_world.proofs.Ending.Rounds.{TurnsBelow}
use Rattle.world_model.proofs.world.World.step_all.Given as goal

abbrev pub invariant-loop-rank : goal.invariant-loop-rank
invariant-loop-rank l =
    Played (below l.rank) l.fn.self l.fn.events.items l.self l.events.items
    × Tried (EachBelow l.rank StepsInVain) l.fn.self l.fn.events.items l.self l.events.items
    × TurnsBelow l.rank l.fn.self l.fn.events.items l.self l.events.items
