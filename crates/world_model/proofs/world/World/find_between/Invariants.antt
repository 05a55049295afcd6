use Rattle.bare_world.specs.Finished.{Played, no_steps, Tried, EachBelow, ArrivesInVain}
use Rattle.world_model.proofs.world.World.find_between.Given as goal

abbrev pub invariant-loop-index : goal.invariant-loop-index
invariant-loop-index l =
    Played no_steps l.fn.self l.fn.events.items l.self l.events.items
    × Tried (EachBelow l.index (ArrivesInVain l.fn.source l.fn.dest)) l.fn.self l.fn.events.items l.self l.events.items
