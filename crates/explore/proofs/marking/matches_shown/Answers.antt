use Rattle.std.proofs.Common.{arith}
use Rattle.explore.proofs.Shown.{past_below, past_more}
use Rattle.explore.proofs.marking.matches_shown.Goals as goal

pub loop-source-preserved : goal.loop-source-preserved
loop-source-preserved c =
    past_more c.args.sim.now.run c.args.rank c.loop-source.source c.args.selector.now c.loop-source.invariant (c.is_shown.ensures.no c.if-is_shown.false)

pub returns-clause-no : goal.returns-clause-no
returns-clause-no c = λ e past.
    (let low = past_below c.args.sim.now c.args.rank c.args.selector.now c.requires.stands past in
    c.loop-source.invariant past (omega (arith, low, c.ranks-ranks.ensures.value, c.loop-source-test.false)))
