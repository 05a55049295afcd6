use Rattle.std.proofs.Common.{◌≡◌, [], replicate}
use Rattle.bare_world.proofs.run.made.Made.new.Given as goal

abbrev pub invariant-loop : goal.invariant-loop
invariant-loop l = l.clocks.items ≡ replicate l.counter []
