use Rattle.std.proofs.Common.{◌≡◌, ◌-◌, length, take}
use Rattle.crash_free.specs.Standing.{and_each, and_value}
use Rattle.crash_free.proofs.standing.writing.write_values.Given as goal

-- the values so far
abbrev pub invariant-loop-index : goal.invariant-loop-index
invariant-loop-index g l = g.O.RowSink.rows l.out ≡ and_each and_value (g.O.RowSink.rows l.initial.out) (take l.index l.fn.values)

abbrev pub decreases-loop-index : goal.decreases-loop-index
decreases-loop-index g l = length l.fn.values - l.index
