use Rattle.crash_free.proofs.live_variables.unread.drop_some.Given as goal

abbrev pub decreases-loop-position : goal.decreases-loop-position
decreases-loop-position l = l.position
