use Rattle.std.proofs.Common.{◌≡◌, ◌++◌, take}
use Rattle.std.specs.Prelude.{map}
use Rattle.crash_free.specs.Alike.{packets_in}
use Rattle.crash_free.specs.Leftovers.{left_by}
use Rattle.crash_free.proofs.leftover.add_left.Given as goal

-- what is left in the slots so far
abbrev pub invariant-loop-slot : goal.invariant-loop-slot
invariant-loop-slot l = l.out.items ≡ l.fn.out.items ++ map (left_by l.fn.rank l.fn.source) (packets_in (take l.slot-index l.slots))
