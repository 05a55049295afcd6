use Rattle.runner.specs.SoakText.{AreUnmet}
use Rattle.runner.proofs.soaked.text.print_unmet.Goals as goal

-- the next one is named too, if no run had it
pub loop-index-preserved : goal.loop-index-preserved
loop-index-preserved c = AreUnmet.of_one _ c.loop-index.invariant c.outcome_at.ensures.outcome c.in_ok-print_if_unmet.ensures
