use Rattle.std.proofs.Common.{◌≡◌, drop}
use Rattle.bare_world.proofs.run.Run.take_back_many.Given as goal

abbrev pub invariant-loop : goal.invariant-loop
invariant-loop l = (l.self.acts ≡ drop l.counter l.fn.self.acts) × (l.self.ranks ≡ l.fn.self.ranks)
