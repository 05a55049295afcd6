use Rattle.std.proofs.Common.{string_bytes}
use Rattle.runner.specs.OutcomesText.{AreWritten}
use Rattle.runner.specs.Partings.{AreOfLast}
use Rattle.runner.proofs.explored.print_outcomes.Given as goal

-- the outcomes so far are written, and where the last one parts is known
abbrev pub invariant-loop-index : goal.invariant-loop-index
invariant-loop-index l = record {
  written : AreWritten l.found.outcomes l.found.choices l.left l.lines l.index (string_bytes l.text);
  parted : AreOfLast l.found.choices l.index l.parted.items;
}
