use Rattle.bare_world.specs.Finished.{Played, no_steps, Tried, PutsInVain}
use Rattle.bare_world.proofs.Ending.TriedInVain.{RowsBelow, RowTo}
use Rattle.world_model.proofs.world.World.pass_all.Given as goal

abbrev pub invariant-loop-source : goal.invariant-loop-source
invariant-loop-source l =
    Played no_steps l.fn.self l.fn.events.items l.self l.events.items
    × Tried (RowsBelow PutsInVain l.source) l.fn.self l.fn.events.items l.self l.events.items

abbrev pub invariant-loop-dest : goal.invariant-loop-dest
invariant-loop-dest l =
    Played no_steps l.fn.self l.fn.events.items l.self l.events.items
    × Tried (RowTo PutsInVain l.source l.dest) l.fn.self l.fn.events.items l.self l.events.items
