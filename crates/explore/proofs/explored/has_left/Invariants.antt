use Rattle.std.proofs.Common.{◌≡◌, ◌≢◌, ◌<◌, ℕ, List, Some, slice_get}
use Rattle.crash_free.specs.declared.leftover.Leftover.{Leftover}
use Rattle.explore.proofs.explored.has_left.Given as goal

-- none of those so far are they
abbrev pub invariant-loop-other : goal.invariant-loop-other
invariant-loop-other l = (i : ℕ) (x : List Leftover) → i < l.other-index → slice_get l.left i ≡ Some x → x ≢ l.messages
