use Rattle.std.proofs.Common.{arith}
use Rattle.explore.proofs.Sending.{one_more_received}
use Rattle.explore.proofs.released.are_received.Goals as goal

pub loop-receiver-preserved : goal.loop-receiver-preserved
loop-receiver-preserved c =
    record {
      few = omega (arith, c.loop-receiver-test.true, c.loop-receiver.invariant.few);
      received =
          one_more_received c.args.sim.now.run c.args.rank c.loop-receiver.receiver c.loop-receiver.invariant.received
          (c.are_received_by.ensures.yes c.if-not-are_received_by.false);
    }

pub returns-clause-yes : goal.returns-clause-yes
returns-clause-yes c = λ e q low.
    c.loop-receiver.invariant.received q (omega (arith, low, c.loop-receiver.invariant.few, c.loop-receiver-test.false, c.ranks-ranks.ensures.value))
