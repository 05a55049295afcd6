use Rattle.std.proofs.Common.{arith}
use Rattle.outcomes.proofs.SoakLaws.LineLaws.{can_follow}
use Rattle.outcomes.proofs.soak.drawing.line_of.Goals as goal

-- the clock is past those at which such a line can't be used
pub returns-clause-usable : goal.returns-clause-usable
returns-clause-usable c = can_follow c.args.order c.random_range-rank.result c.clock_after-clock.result c.args.lines.now
    (omega (arith, c.passed-before.ensures, c.clock_after-clock.ensures.past))
