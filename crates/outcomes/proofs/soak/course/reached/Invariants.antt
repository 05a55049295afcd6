use Rattle.std.proofs.Common.{◌≡◌, max, length}
use Rattle.outcomes.specs.Soak.Lines.{reached_in}
use Rattle.outcomes.proofs.soak.course.reached.Given as goal

-- the greatest so far and that of the lines that are left make the greatest of all
abbrev pub invariant-loop-rest : goal.invariant-loop-rest
invariant-loop-rest l = max l.last (reached_in l.rank l.rest) ≡ reached_in l.rank l.lines

abbrev pub decreases-loop-rest : goal.decreases-loop-rest
decreases-loop-rest l = length l.rest
