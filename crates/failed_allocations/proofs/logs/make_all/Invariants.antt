use Rattle.std.proofs.Common.{◌≡◌, length}
use Rattle.failed_allocations.proofs.logs.make_all.Given as goal

-- the log is of two ranks
abbrev pub invariant-loop-row : goal.invariant-loop-row
invariant-loop-row l = length l.log ≡ 2
