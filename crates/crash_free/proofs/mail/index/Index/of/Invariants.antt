use Rattle.std.proofs.Common.{◌-◌, length, take}
use Rattle.crash_free.specs.Index.{IsIndex}
use Rattle.crash_free.proofs.mail.index.Index.of.Given as goal

-- an index of the slots so far
abbrev pub invariant-loop-place : goal.invariant-loop-place
invariant-loop-place l = IsIndex l.index (take l.place l.fn.slots)

abbrev pub decreases-loop-place : goal.decreases-loop-place
decreases-loop-place l = length l.fn.slots - l.place
