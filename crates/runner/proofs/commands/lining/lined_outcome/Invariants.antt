use Rattle.runner.specs.SentLines.{AreListedUpTo}
use Rattle.runner.proofs.commands.lining.lined_outcome.Given as goal

-- so it is of the lists so far
abbrev pub invariant-loop-index : goal.invariant-loop-index
invariant-loop-index l = AreListedUpTo l.mode l.program l.job.ranks l.lines l.outcome.ranks l.outcome.left l.index l.left.items
