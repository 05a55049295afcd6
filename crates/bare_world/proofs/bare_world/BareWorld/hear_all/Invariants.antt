use Rattle.std.proofs.Common.{ℕ, ◌<◌}
use Rattle.bare_world.specs.World.{size}
use Rattle.bare_world.specs.Driven.{Listened, Heard}
use Rattle.bare_world.proofs.bare_world.BareWorld.hear_all.Given as goal

abbrev pub invariant-loop-source : goal.invariant-loop-source
invariant-loop-source l = Listened l.fn.self l.fn.events.items l.self l.events.items × ((r s : ℕ) → r < l.source → s < size l.self → Heard r s l.self)
