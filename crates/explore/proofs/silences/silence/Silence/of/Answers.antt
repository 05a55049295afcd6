use Rattle.explore.proofs.SilentFrom.{row_is_right}
use Rattle.explore.proofs.silences.silence.Silence.of.Goals as goal

pub returns-then-all_hold : goal.returns-then-all_hold
returns-then-all_hold c =
    row_is_right c.args.program.now c.loop-rounds.row.sought c.loop-rounds.row.claims c.law_lines.ensures (c.all_hold.ensures c.if-all_hold.true)
