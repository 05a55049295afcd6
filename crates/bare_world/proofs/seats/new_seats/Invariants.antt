use Rattle.std.proofs.Common.{◌≡◌, length}
use Rattle.bare_world.proofs.Lists.NewRanks.{AllNew}
use Rattle.bare_world.proofs.seats.new_seats.Given as goal

abbrev pub invariant-loop-rank : goal.invariant-loop-rank
invariant-loop-rank l = (length l.seats.items ≡ l.rank) × AllNew l.fn.program l.fn.ranks l.seats.items
