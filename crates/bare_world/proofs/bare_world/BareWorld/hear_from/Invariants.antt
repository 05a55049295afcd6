use Rattle.std.proofs.Common.{ℕ, ◌<◌}
use Rattle.bare_world.specs.Driven.{Listened, Heard}
use Rattle.bare_world.proofs.bare_world.BareWorld.hear_from.Given as goal

abbrev pub invariant-loop-dest : goal.invariant-loop-dest
invariant-loop-dest l = Listened l.fn.self l.fn.events.items l.self l.events.items × ((s : ℕ) → s < l.dest → Heard l.source s l.self)
