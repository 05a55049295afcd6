use Rattle.std.proofs.Common.{◌≡◌, length}
use Rattle.outcomes.proofs.soak.bar.are_same.Given as goal

-- what is left is the same exactly where the whole is
abbrev pub invariant-loop-rest : goal.invariant-loop-rest
invariant-loop-rest l = (l.rest ≡ l.more → l.fn.ranks ≡ l.fn.others) × (l.fn.ranks ≡ l.fn.others → l.rest ≡ l.more)

abbrev pub decreases-loop-rest : goal.decreases-loop-rest
decreases-loop-rest l = length l.rest
