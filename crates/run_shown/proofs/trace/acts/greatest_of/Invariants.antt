use Rattle.std.proofs.Common.{◌≡◌, length, max}
use Rattle.run_shown.specs.Trace.Lines.{greatest_of}
use Rattle.run_shown.proofs.trace.acts.greatest_of.Given as goal

-- the greatest so far and the places that are left have the greatest of all
abbrev pub invariant-loop-rest : goal.invariant-loop-rest
invariant-loop-rest l = max l.greatest (greatest_of l.rest) ≡ greatest_of l.places

abbrev pub decreases-loop-rest : goal.decreases-loop-rest
decreases-loop-rest l = length l.rest
