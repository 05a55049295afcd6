use Rattle.bare_world.proofs.Way.AllIsAtHand.{AllStocked}
use Rattle.bare_world.proofs.seats.Seats.law_stocked.Given as goal

-- so far
abbrev pub invariant-loop-index : goal.invariant-loop-index
invariant-loop-index l = AllStocked l.index l.self-inside.seats.items
