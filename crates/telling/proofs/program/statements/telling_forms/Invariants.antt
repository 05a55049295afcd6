use Rattle.std.proofs.Common.{◌≡◌, ◌++◌, length}
use Rattle.rank_text.specs.Checker.SeenLines.{forms_seen}
use Rattle.telling.specs.Telling.{telling_forms, telling_lines, with_each, with_told}
use Rattle.telling.specs.Lines.{lines_each}
use Rattle.telling.proofs.program.statements.telling_forms.Given as goal

-- the statements so far, each on its line, and those of the rest are all
abbrev pub invariant-loop-left : goal.invariant-loop-left
invariant-loop-left l = record {
  forms : forms_seen l.all.forms.items ++ with_each l.telling l.added (forms_seen l.forms) (forms_seen l.left) ≡ telling_forms l.telling l.added (forms_seen l.forms);
  lines : l.all.lines.items ++ lines_each (with_told l.telling l.added (forms_seen l.forms)) l.numbers_left (forms_seen l.left) ≡ telling_lines l.telling l.added l.numbers (forms_seen l.forms);
  each : length l.all.lines.items ≡ length l.all.forms.items;
  numbered : length l.numbers_left ≡ length l.left;
}

abbrev pub decreases-loop-left : goal.decreases-loop-left
decreases-loop-left l = length l.left
