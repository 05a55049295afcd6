use Rattle.std.proofs.Common.{◌≡◌}
use Rattle.bare_world.specs.RunIndex.{with_misses}
use Rattle.bare_world.proofs.run.Run.push_misses.Given as goal

abbrev pub invariant-loop-done : goal.invariant-loop-done
invariant-loop-done l = (l.self.acts ≡ with_misses l.fn.rank l.done l.fn.self.acts) × (l.self.ranks ≡ l.fn.self.ranks)
