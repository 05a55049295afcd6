use Rattle.std.proofs.Common.{◌<◌, ◌-◌, length}
use Rattle.explore.proofs.races.Races.note.Given as goal

-- there is a move before each
abbrev pub invariant-loop-at : goal.invariant-loop-at
invariant-loop-at l = 0 < l.at

abbrev pub decreases-loop-at : goal.decreases-loop-at
decreases-loop-at l = length l.moves - l.at
