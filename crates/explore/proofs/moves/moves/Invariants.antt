use Rattle.std.proofs.Common.{◌-◌}
use Rattle.explore.proofs.Moving.{HasSome}
use Rattle.explore.proofs.moves.moves.Given as goal

-- the moves of the ranks so far
abbrev pub invariant-loop-rank : goal.invariant-loop-rank
invariant-loop-rank l = HasSome l.mode l.sim l.rank l.moves.items

abbrev pub decreases-loop-rank : goal.decreases-loop-rank
decreases-loop-rank l = l.ranks - l.rank
