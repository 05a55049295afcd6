use Rattle.std.proofs.Common.{arith}
use Rattle.audit.proofs.FinalRunsLaws.Finding.{stalled_further, all_stalled}
use Rattle.audit.proofs.final_runs.stalled.not_stalled.Goals as goal

pub loop-rank-preserved : goal.loop-rank-preserved
loop-rank-preserved c = record {
  within = omega (arith, c.loop-rank-test.true);
  each = stalled_further c.args.run.now c.args.ends.now c.loop-rank.rank c.loop-rank.invariant.each (c.is_false.ensures.no c.if-is_false.false);
}

pub returns-clause-none : goal.returns-clause-none
returns-clause-none c = λ e.
    all_stalled c.args.run.now c.args.ends.now c.loop-rank.rank
    (omega (arith, c.ranks-ranks.ensures.value, c.loop-rank.invariant.within, c.loop-rank-test.false)) c.loop-rank.invariant.each
