use Rattle.runner.specs.SentLines.{AreLinedUpTo}
use Rattle.runner.proofs.commands.lining.lined_of.Given as goal

-- so it is of the outcomes so far
abbrev pub invariant-loop-index : goal.invariant-loop-index
invariant-loop-index l = AreLinedUpTo l.mode l.program l.job.ranks l.lines l.found.outcomes l.found.left l.index l.lined.items
