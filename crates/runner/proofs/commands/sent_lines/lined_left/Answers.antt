use Rattle.std.proofs.Common.{arith}
use Rattle.runner.proofs.SentLines.{all_sent}
use Rattle.runner.proofs.commands.sent_lines.lined_left.Goals as goal

-- the positions of the sends to all ranks were found
pub returns : goal.returns
returns c =
    all_sent _ _ _ c.loop-rank.rank _ _ c.acts.result.now _ c.as_slice-2.result.now _ _ c.as_slice-3.result.now _ c.requires.size c.in_ok-left.ensures
    c.acts.ensures c.in_ok-places.ensures c.loop-rank.invariant (omega (arith, c.loop-rank-test.false, c.loop-rank.auto.rank-end))
    c.as_slice-2.ensures.value c.as_slice-3.ensures.value c.in_ok-with_lines.ensures
