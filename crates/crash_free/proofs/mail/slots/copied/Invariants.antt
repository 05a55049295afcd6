use Rattle.std.proofs.Common.{◌≡◌, take}
use Rattle.crash_free.proofs.mail.slots.copied.Given as goal

-- the copies so far
abbrev pub invariant-loop-slot : goal.invariant-loop-slot
invariant-loop-slot l = l.copies.items ≡ take l.slot-index l.slots
