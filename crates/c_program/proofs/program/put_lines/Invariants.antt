use Rattle.std.proofs.Common.{◌≡◌, ◌+◌, ◌≤◌, ◌++◌, length}
use Rattle.rank_text.specs.Checker.SeenLines.{forms_seen}
use Rattle.c_program.specs.Translation.{c_lines}
use Rattle.c_program.proofs.program.put_lines.Given as goal

-- the lines so far and those of the rest are all, and each open block has its statement
abbrev pub invariant-loop-numbers_left : goal.invariant-loop-numbers_left
invariant-loop-numbers_left l = record {
  whole : l.text.items ++ c_lines l.depth l.numbers_left (forms_seen l.left) ≡ l.fn.text.items ++ c_lines 0 l.numbers (forms_seen l.forms);
  within : l.depth + length l.left ≤ length l.forms;
}

abbrev pub decreases-loop-numbers_left : goal.decreases-loop-numbers_left
decreases-loop-numbers_left l = length l.left
