use Rattle.std.proofs.Common.{length}
use Rattle.bare_world.proofs.seats.end_all.Given as goal

abbrev pub decreases-loop-seat : goal.decreases-loop-seat
decreases-loop-seat l = length l.seats.items
