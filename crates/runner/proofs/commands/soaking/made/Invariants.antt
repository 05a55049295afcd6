use Rattle.runner.specs.Soaks.{AreSoaked}
use Rattle.runner.proofs.commands.soaking.made.Given as goal

-- so many runs were made
abbrev pub invariant-loop-number : goal.invariant-loop-number
invariant-loop-number g l = AreSoaked l.program l.job l.number l.soaked
