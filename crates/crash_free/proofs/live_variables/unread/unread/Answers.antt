use Rattle.rank_language.specs.Program.{block_of}
use Rattle.crash_free.specs.LiveVariables.Seen.{name_of}
use Rattle.crash_free.proofs.LiveVariablesLaws.Sound.{row_is_right}
use Rattle.crash_free.proofs.live_variables.unread.unread.Goals as goal

pub returns-then-all_hold : goal.returns-then-all_hold
returns-then-all_hold c =
    row_is_right (name_of c.args.name) c.loop-rounds.row (block_of c.args.program.now) c.args.program.now.statements c.law_lines.ensures
    (c.all_hold.ensures c.if-all_hold.true)
