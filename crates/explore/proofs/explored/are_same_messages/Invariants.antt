use Rattle.std.proofs.Common.{◌≡◌, ◌<◌, ◌-◌, ℕ, length, slice_get}
use Rattle.explore.proofs.explored.are_same_messages.Given as goal

-- the messages so far are the same
abbrev pub invariant-loop-at : goal.invariant-loop-at
invariant-loop-at l = (i : ℕ) → i < l.at → slice_get l.messages i ≡ slice_get l.others i

abbrev pub decreases-loop-at : goal.decreases-loop-at
decreases-loop-at l = length l.messages - l.at
