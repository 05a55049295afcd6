use Rattle.runner.specs.Soaks.{AreSoaked}
use Rattle.runner.proofs.commands.soaking.made.Goals as goal

-- one run more is made
pub loop-number-preserved : goal.loop-number-preserved
loop-number-preserved g c = AreSoaked.more c.loop-number.invariant c.in_ok-make.ensures.more
