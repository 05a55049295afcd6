use Rattle.std.proofs.Common.{ℕ, ◌<◌}
use Rattle.bare_world.specs.Driven.{Flushed, Emptied}
use Rattle.bare_world.proofs.bare_world.BareWorld.flush_from.Given as goal

abbrev pub invariant-loop-dest : goal.invariant-loop-dest
invariant-loop-dest l = Flushed l.fn.self l.fn.events.items l.self l.events.items × ((d : ℕ) → d < l.dest → Emptied l.source d l.fn.self l.self)
