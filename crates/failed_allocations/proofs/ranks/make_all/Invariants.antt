use Rattle.std.proofs.Common.{◌≡◌}
use Rattle.failed_allocations.proofs.ranks.make_all.Given as goal

-- it is rank 1 of two
abbrev pub invariant-loop-row : goal.invariant-loop-row
invariant-loop-row l = (l.rank.stable.rank ≡ 1) × (l.rank.stable.size ≡ 2)
