use Rattle.std.proofs.Common.{◌-◌, length}
use Rattle.crash_free.proofs.Walking.{NonePasses}
use Rattle.crash_free.proofs.mail.walk.first_from.Given as goal

abbrev pub invariant-loop-place : goal.invariant-loop-place
invariant-loop-place l = NonePasses l.fn.selector l.fn.slots l.place

abbrev pub decreases-loop-place : goal.decreases-loop-place
decreases-loop-place l = length l.fn.slots - l.place
