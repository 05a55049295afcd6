use Rattle.std.proofs.Common.{◌≡◌, ◌+◌, length}
use Rattle.rank_threads.specs.Causes.{uncaused_from}
use Rattle.rank_threads.proofs.report.cause.find_uncaused.Given as goal

-- the ranks so far have their causes
abbrev pub invariant-loop-rest : goal.invariant-loop-rest
invariant-loop-rest l = record {
  lowest : uncaused_from l.steps l.rank l.ledger.rows l.rest ≡ uncaused_from l.steps 0 l.ledger.rows l.accounts;
  all : l.rank + length l.rest ≡ length l.accounts;
}

abbrev pub decreases-loop-rest : goal.decreases-loop-rest
decreases-loop-rest l = length l.rest
