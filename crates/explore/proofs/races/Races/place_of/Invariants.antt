use Rattle.std.proofs.Common.{◌≤◌, ◌-◌, length}
use Rattle.explore.proofs.races.Races.place_of.Given as goal

-- the place is one among them or behind the last
abbrev pub invariant-loop-place : goal.invariant-loop-place
invariant-loop-place l = l.place ≤ length l.self.found.items

abbrev pub decreases-loop-place : goal.decreases-loop-place
decreases-loop-place l = length l.self.found.items - l.place
