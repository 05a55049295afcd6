use Rattle.std.proofs.Common.{◌≡◌, map, take}
use Rattle.audit.specs.Counts.{ends_from}
use Rattle.audit.proofs.counts.count.Given as goal

-- of the rows so far
abbrev pub invariant-loop-row : goal.invariant-loop-row
invariant-loop-row l = l.all.items ≡ map (ends_from 0) (take l.row-index l.fn.outcome.rows)
