use Rattle.std.proofs.Common.{◌≡◌, [], replicate}
use Rattle.crash_free.proofs.lines.PrintedValues.new.Given as goal

abbrev pub invariant-loop : goal.invariant-loop
invariant-loop l = l.rows.items ≡ replicate l.counter []
