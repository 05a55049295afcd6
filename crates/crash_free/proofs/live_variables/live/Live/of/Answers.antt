use Rattle.crash_free.proofs.LiveVariablesLaws.Sound.{is_table}
use Rattle.crash_free.proofs.live_variables.live.Live.of.Goals as goal

pub returns : goal.returns
returns c = is_table c.args.program.now _ c.loop-place.invariant.right c.in_ok-status.ensures c.gives_items.ensures
