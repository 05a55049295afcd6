use Rattle.std.proofs.Common.{arith}
use Rattle.runner.proofs.Partings.{past_end}
use Rattle.runner.proofs.commands.apart.first_apart.Goals as goal

-- the other has no value there
pub returns-else-number-other-clause-apart : goal.returns-else-number-other-clause-apart
returns-else-number-other-clause-apart c = λ x y here there same.
    past_end c.args.other.now c.loop-number.number y (omega (arith, c.if-number-other.false)) there

-- the one has none
pub returns-after-loop-number-clause-apart : goal.returns-after-loop-number-clause-apart
returns-after-loop-number-clause-apart c = λ x y here there same.
    past_end c.args.one.now c.loop-number.number x (omega (arith, c.loop-number-test.false)) here
