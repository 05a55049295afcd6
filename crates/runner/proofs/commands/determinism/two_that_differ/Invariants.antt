use Rattle.runner.proofs.Determinism.{AlikeBelow}
use Rattle.runner.proofs.commands.determinism.two_that_differ.Given as goal

-- those before are like the first
abbrev pub invariant-loop-index : goal.invariant-loop-index
invariant-loop-index l = AlikeBelow l.found.outcomes l.index
