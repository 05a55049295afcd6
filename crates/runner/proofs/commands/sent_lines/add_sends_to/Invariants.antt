use Rattle.std.proofs.Common.{◌≡◌, ◌++◌}
use Rattle.crash_free.specs.Leftovers.{join_below}
use Rattle.runner.specs.SentLines.{sent_between}
use Rattle.runner.proofs.commands.sent_lines.add_sends_to.Given as goal

-- those of the sources so far
abbrev pub invariant-loop-source : goal.invariant-loop-source
invariant-loop-source l = l.positions.items ≡ l.initial.positions.items ++ join_below (sent_between l.acts l.places l.left l.rank) l.source
