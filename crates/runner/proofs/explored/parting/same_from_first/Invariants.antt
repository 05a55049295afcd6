use Rattle.std.proofs.Common.{◌≡◌, ◌<◌, ◌-◌, ℕ, length, slice_get}
use Rattle.runner.proofs.explored.parting.same_from_first.Given as goal

-- the choices so far are the same
abbrev pub invariant-loop-at : goal.invariant-loop-at
invariant-loop-at l = (i : ℕ) → i < l.at → slice_get l.choices i ≡ slice_get l.last i

abbrev pub decreases-loop-at : goal.decreases-loop-at
decreases-loop-at l = length l.last - l.at
