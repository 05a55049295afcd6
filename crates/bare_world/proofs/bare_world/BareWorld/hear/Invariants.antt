use Rattle.bare_world.specs.Driven.{Listened, HeardTo}
use Rattle.bare_world.proofs.bare_world.BareWorld.hear.Given as goal

abbrev pub invariant-loop-index : goal.invariant-loop-index
invariant-loop-index l = Listened l.fn.self l.fn.events.items l.self l.events.items × HeardTo l.index l.source l.dest l.self
