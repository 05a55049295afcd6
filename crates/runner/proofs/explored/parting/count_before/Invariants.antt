use Rattle.std.proofs.Common.{◌≡◌, ◌<◌, ◌-◌, ℕ, Some, length, slice_get}
use Rattle.runner.specs.declared.explored.parting.Parted.{Parted}
use Rattle.runner.proofs.explored.parting.count_before.Given as goal

-- those so far stand before the place
abbrev pub invariant-loop-count : goal.invariant-loop-count
invariant-loop-count l = (i : ℕ) (one : Parted) → i < l.count → slice_get l.parted i ≡ Some one → one.at < l.at

abbrev pub decreases-loop-count : goal.decreases-loop-count
decreases-loop-count l = length l.parted - l.count
