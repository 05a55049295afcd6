use Rattle.std.proofs.Common.{◌≡◌, ◌≤◌, ◌+◌, ◌-◌, ◌^◌, min, sum, length}
use Rattle.runner.proofs.output.calls_of.Given as goal

-- the calls that are counted and those of the ranks that are left are all, as far as a u64 goes
abbrev pub invariant-loop-rest : goal.invariant-loop-rest
invariant-loop-rest l = record {
  bound : l.total ≤ 2 ^ 64 - 1;
  whole : min (l.total + sum l.rest) (2 ^ 64 - 1) ≡ min (sum l.report.calls.items) (2 ^ 64 - 1);
}

abbrev pub decreases-loop-rest : goal.decreases-loop-rest
decreases-loop-rest l = length l.rest
