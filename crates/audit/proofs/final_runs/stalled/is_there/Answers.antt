use Rattle.std.proofs.Common.{arith}
use Rattle.audit.proofs.final_runs.stalled.is_there.Goals as goal

pub loop-source-preserved : goal.loop-source-preserved
loop-source-preserved c = record {
  within = omega (arith, c.loop-source-test.true);
  none = c.is_from.ensures.no c.if-is_from.false c.loop-source.invariant.none;
}

pub returns-clause-no : goal.returns-clause-no
returns-clause-no c = λ e source place low.
    c.loop-source.invariant.none source place (omega (arith, low, c.loop-source-test.false, c.ranks-ranks.ensures.value))
