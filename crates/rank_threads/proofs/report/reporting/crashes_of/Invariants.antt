use Rattle.std.proofs.Common.{◌≡◌, length}
use Rattle.rank_threads.specs.Faults.{crashes_from}
use Rattle.rank_threads.proofs.report.reporting.crashes_of.Given as goal

-- what is left is counted on
abbrev pub invariant-loop-rest : goal.invariant-loop-rest
invariant-loop-rest l = crashes_from l.crashes l.rest ≡ crashes_from 0 l.accounts

abbrev pub decreases-loop-rest : goal.decreases-loop-rest
decreases-loop-rest l = length l.rest
