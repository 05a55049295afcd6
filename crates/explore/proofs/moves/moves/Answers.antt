use Rattle.std.proofs.Common.{arith}
use Rattle.explore.proofs.Moving.{one_rank}
use Rattle.explore.proofs.moves.moves.Goals as goal

pub loop-rank-preserved : goal.loop-rank-preserved
loop-rank-preserved c =
    one_rank c.args.mode c.args.sim.now c.loop-rank.rank c.loop-rank.moves.items c.add_unless_held.new.moves.items
    (omega (arith, c.loop-rank-test.true, c.ranks-ranks.ensures.value)) c.loop-rank.invariant (c.in_ok-add_unless_held.ensures.adds c.if-not-branch.false)
