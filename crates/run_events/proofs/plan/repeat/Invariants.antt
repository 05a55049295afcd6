use Rattle.std.proofs.Common.{◌≡◌, ◌++◌}
use Rattle.std.specs.Prelude.{replicate}
use Rattle.run_events.proofs.plan.repeat.Given as goal

-- so many are added so far
abbrev pub invariant-loop : goal.invariant-loop
invariant-loop l = l.events.items ≡ l.initial.events.items ++ replicate l.counter l.part.event
