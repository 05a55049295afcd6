use Rattle.std.proofs.Common.{arith}
use Rattle.outcomes.proofs.SoakLaws.SeenLaws.{all_seen}
use Rattle.outcomes.proofs.soak.seen.seen_of.Goals as goal

-- no end is left, so all is seen
pub returns : goal.returns
returns c =
    all_seen c.loop-rest.seen.items c.loop-rest.rank c.args.outcome.now.lines c.loop-rest.rest.now c.args.outcome.now.ends
    (omega (arith, c.in_default.len_below)) c.loop-rest.invariant.whole
