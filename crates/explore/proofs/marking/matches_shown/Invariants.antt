use Rattle.std.proofs.Common.{◌-◌, ◌<◌}
use Rattle.explore.specs.Shown.{IsPast}
use Rattle.explore.proofs.marking.matches_shown.Given as goal

-- no message of the sources so far was shown and matches
abbrev pub invariant-loop-source : goal.invariant-loop-source
invariant-loop-source l = (past : IsPast l.sim.run l.rank l.selector) → past.source < l.source → ⊥

abbrev pub decreases-loop-source : goal.decreases-loop-source
decreases-loop-source l = l.ranks - l.source
