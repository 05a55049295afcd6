use Rattle.std.proofs.Common.{ℕ, ◌<◌}
use Rattle.bare_world.specs.World.{size}
use Rattle.bare_world.specs.Driven.{Flushed, Emptied}
use Rattle.bare_world.proofs.bare_world.BareWorld.flush_all.Given as goal

abbrev pub invariant-loop-source : goal.invariant-loop-source
invariant-loop-source l = Flushed l.fn.self l.fn.events.items l.self l.events.items
    × ((s d : ℕ) → s < l.source → d < size l.self → Emptied s d l.fn.self l.self)
