use Rattle.std.proofs.Common.{◌≡◌}
use Rattle.rank_threads.proofs.early_audit.go_on.Given as goal

abbrev pub invariant-loop-rank : goal.invariant-loop-rank
invariant-loop-rank g l = l.ahead ≡ l.fn.ahead
