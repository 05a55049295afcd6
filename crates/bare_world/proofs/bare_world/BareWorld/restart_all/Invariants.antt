use Rattle.bare_world.specs.Driven.{Advanced, LiveTo}
use Rattle.bare_world.proofs.bare_world.BareWorld.restart_all.Given as goal

abbrev pub invariant-loop-rank : goal.invariant-loop-rank
invariant-loop-rank l = Advanced l.fn.self l.fn.events.items l.self l.events.items × LiveTo l.rank l.self
