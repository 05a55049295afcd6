use Rattle.std.proofs.Common.{◌≡◌}
use Rattle.rank_threads.proofs.early_audit.audit_early.Given as goal

abbrev pub invariant-loop : goal.invariant-loop
invariant-loop g l = l.ahead ≡ l.fn.ahead
