use Rattle.std.proofs.Common.{arith}
use Rattle.explore.proofs.Counting.{counts_further}
use Rattle.explore.proofs.Making.{leads_further}
use Rattle.explore.proofs.steps.advance.Goals as goal

pub loop-preserved : goal.loop-preserved
loop-preserved c = (
  leads_further c.args.mode c.args.sim.now c.loop.sim c.round.new.sim c.loop.invariant.0 c.in_ok-round.ensures.leads,
  omega (arith, c.in_ok-round.ensures.less, c.loop.invariant.1),
  counts_further c.args.sim.now c.loop.sim c.round.new.sim c.args.left.now c.loop.left c.round.new.left c.loop.invariant.2 c.in_ok-round.ensures.counts,
)

pub returns-then-not-branch-clause-leads : goal.returns-then-not-branch-clause-leads
returns-then-not-branch-clause-leads c =
    leads_further c.args.mode c.args.sim.now c.loop.sim c.round.new.sim c.loop.invariant.0 c.in_ok-round.ensures.leads
