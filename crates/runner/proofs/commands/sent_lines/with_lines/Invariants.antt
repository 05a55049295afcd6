use Rattle.std.proofs.Common.{◌≡◌, ◌+◌, ◌++◌, length}
use Rattle.runner.specs.SentLines.{with_lines, with_lines_from}
use Rattle.runner.proofs.commands.sent_lines.with_lines.Given as goal

-- the messages so far and those that are left are the whole
abbrev pub invariant-loop-rest : goal.invariant-loop-rest
invariant-loop-rest l = record {
  within : l.index + length l.rest ≡ length l.left;
  whole : l.messages.items ++ with_lines_from l.lines l.positions l.index l.rest ≡ with_lines l.lines l.positions l.left;
}

abbrev pub decreases-loop-rest : goal.decreases-loop-rest
decreases-loop-rest l = length l.rest
