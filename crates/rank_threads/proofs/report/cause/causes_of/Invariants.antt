use Rattle.std.proofs.Common.{◌≡◌, ◌+◌, ◌++◌, length}
use Rattle.rank_threads.specs.Causes.{causes_from}
use Rattle.rank_threads.proofs.report.cause.causes_of.Given as goal

-- those so far, and then those of the ranks that are left
abbrev pub invariant-loop-rest : goal.invariant-loop-rest
invariant-loop-rest l = record {
  causes : l.causes.items ++ causes_from l.steps l.rank l.ledger.rows l.rest ≡ causes_from l.steps 0 l.ledger.rows l.accounts;
  all : l.rank + length l.rest ≡ length l.accounts;
}

abbrev pub decreases-loop-rest : goal.decreases-loop-rest
decreases-loop-rest l = length l.rest
