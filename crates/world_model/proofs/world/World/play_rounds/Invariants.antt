use Rattle.bare_world.specs.Finished.{Played, for_all, HadRounds}
use Rattle.world_model.proofs.world.World.play_rounds.Given as goal

abbrev pub invariant-loop : goal.invariant-loop
invariant-loop l =
    Played (for_all l.counter) l.fn.self l.fn.events.items l.self l.events.items × HadRounds l.counter l.fn.self l.fn.events.items l.self l.events.items
