use Rattle.std.proofs.Common.{arith}
use Rattle.runner.proofs.Partings.{past_end}
use Rattle.runner.proofs.explored.parting.same_from_first.Goals as goal

pub returns-else-at-choices-clause-apart : goal.returns-else-at-choices-clause-apart
returns-else-at-choices-clause-apart c = λ chosen before here there same.
    past_end c.args.choices.now c.loop-at.at chosen (omega (arith, c.if-at-choices.false)) here

pub returns-after-loop-at-clause-apart : goal.returns-after-loop-at-clause-apart
returns-after-loop-at-clause-apart c = λ chosen before here there same.
    past_end c.args.last.now c.loop-at.at before (omega (arith, c.loop-at-test.false)) there
