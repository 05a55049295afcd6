use Rattle.std.proofs.Common.{◌-◌, ◌≤◌, length}
use Rattle.crash_free.specs.Index.{AreEmptyBefore}
use Rattle.crash_free.proofs.mail.walk.moved.Given as goal

-- the slots so far are empty
abbrev pub invariant-loop-place : goal.invariant-loop-place
invariant-loop-place l = record {
  within : l.place ≤ length l.fn.slots;
  empty : AreEmptyBefore l.place l.fn.slots;
}

abbrev pub decreases-loop-place : goal.decreases-loop-place
decreases-loop-place l = length l.fn.slots - l.place
