use Rattle.runner.proofs.Determinism.{SameBelow}
use Rattle.runner.proofs.commands.determinism.parting_rank.Given as goal

-- the ranks before printed the same
abbrev pub invariant-loop-rank : goal.invariant-loop-rank
invariant-loop-rank l = SameBelow l.one l.other l.rank
