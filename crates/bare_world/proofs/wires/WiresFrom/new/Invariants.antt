use Rattle.std.proofs.Common.{◌≡◌, [], replicate}
use Rattle.bare_world.proofs.wires.WiresFrom.new.Given as goal

abbrev pub invariant-loop : goal.invariant-loop
invariant-loop l = l.wires.items ≡ replicate l.counter []
