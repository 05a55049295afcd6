use Rattle.bare_world.specs.Driven.{Flushed}
use Rattle.bare_world.specs.Measures.{outstanding_at}
use Rattle.bare_world.proofs.bare_world.BareWorld.flush.Given as goal

abbrev pub invariant-loop : goal.invariant-loop
invariant-loop l = Flushed l.fn.self l.fn.events.items l.self l.events.items

abbrev pub decreases-loop : goal.decreases-loop
decreases-loop l = outstanding_at l.source l.dest l.self
