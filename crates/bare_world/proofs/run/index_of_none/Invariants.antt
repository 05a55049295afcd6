use Rattle.std.proofs.Common.{◌≡◌, replicate}
use Rattle.bare_world.specs.RunIndex.{none_made}
use Rattle.bare_world.proofs.run.index_of_none.Given as goal

abbrev pub invariant-loop : goal.invariant-loop
invariant-loop l = l.index.items ≡ replicate l.counter (none_made l.fn.ranks)
