use Rattle.std.proofs.Common.{◌≡◌, ◌+◌, length}
use Rattle.rank_threads.specs.Faults.{lowest_from}
use Rattle.rank_threads.proofs.report.reporting.lowest_fault.Given as goal

-- the ranks so far met no fault
abbrev pub invariant-loop-rest : goal.invariant-loop-rest
invariant-loop-rest l = record {
  lowest : lowest_from l.rank l.rest ≡ lowest_from 0 l.accounts;
  all : l.rank + length l.rest ≡ length l.accounts;
}

abbrev pub decreases-loop-rest : goal.decreases-loop-rest
decreases-loop-rest l = length l.rest
