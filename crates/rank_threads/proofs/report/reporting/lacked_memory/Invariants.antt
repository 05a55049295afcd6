use Rattle.std.proofs.Common.{◌≡◌, length}
use Rattle.rank_threads.specs.Faults.{lacked_memory}
use Rattle.rank_threads.proofs.report.reporting.lacked_memory.Given as goal

-- what is left decides
abbrev pub invariant-loop-rest : goal.invariant-loop-rest
invariant-loop-rest l = lacked_memory l.rest ≡ lacked_memory l.accounts

abbrev pub decreases-loop-rest : goal.decreases-loop-rest
decreases-loop-rest l = length l.rest
