use Rattle.std.proofs.Common.{arith}
use Rattle.explore.proofs.Persisting.{all_settled, settled_further}
use Rattle.explore.proofs.persistent.are_settled.Goals as goal

pub loop-source-preserved : goal.loop-source-preserved
loop-source-preserved c = record {
  settled =
      settled_further c.args.sim.now c.args.rank c.args.selector.now c.loop-source.source c.is_settled.result c.loop-source.invariant.settled
      c.is_settled.ensures c.if-not-is_settled.false;
}

pub returns : goal.returns
returns c =
    λ yes.
    all_settled c.args.sim.now c.args.rank c.args.selector.now c.loop-source.source c.requires.stands
    (omega (arith, c.loop-source-test.false, c.ranks-ranks.ensures.value)) c.loop-source.invariant.settled
