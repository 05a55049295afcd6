use Rattle.std.proofs.Common.{◌≡◌, ◌++◌, length}
use Rattle.runner.specs.SentLines.{positions_in}
use Rattle.runner.proofs.commands.sent_lines.add_pending.Given as goal

-- those that are added and those that are left are the whole
abbrev pub invariant-loop-rest : goal.invariant-loop-rest
invariant-loop-rest l = l.positions.items ++ positions_in l.rest ≡ l.initial.positions.items ++ positions_in l.pending

abbrev pub decreases-loop-rest : goal.decreases-loop-rest
decreases-loop-rest l = length l.rest
