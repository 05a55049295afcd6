use Rattle.std.proofs.Common.{◌≡◌, ◌≤◌, ◌-◌}
use Rattle.crash_free.specs.Standing.{and_below, and_variable}
use Rattle.crash_free.proofs.standing.writing.write_variables.Given as goal

-- the variables so far
abbrev pub invariant-loop-place : goal.invariant-loop-place
invariant-loop-place g l = record {
  written : g.O.RowSink.rows l.out ≡ and_below (and_variable l.fn.live l.fn.machine) (g.O.RowSink.rows l.initial.out) l.place;
  within : l.place ≤ l.count;
}

abbrev pub decreases-loop-place : goal.decreases-loop-place
decreases-loop-place g l = l.count - l.place
