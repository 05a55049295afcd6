use Rattle.std.proofs.Common.{◌≡◌, ◌<◌, ◌-◌, ℕ, length, slice_get}
use Rattle.runner.proofs.commands.apart.first_apart.Given as goal

-- the values so far are the same
abbrev pub invariant-loop-number : goal.invariant-loop-number
invariant-loop-number l = (i : ℕ) → i < l.number → slice_get l.one i ≡ slice_get l.other i

abbrev pub decreases-loop-number : goal.decreases-loop-number
decreases-loop-number l = length l.one - l.number
