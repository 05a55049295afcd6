use Rattle.std.proofs.Common.{◌≡◌, [], replicate}
use Rattle.bare_world.proofs.wires.Wires.new.Given as goal

abbrev pub invariant-loop : goal.invariant-loop
invariant-loop l = l.from.items ≡ replicate l.counter (replicate l.fn.ranks [])
