use Rattle.std.proofs.Common.{◌≡◌, ◌≤◌, ◌++◌, drop}
use Rattle.rank_text.specs.Checker.SeenLines.{forms_seen}
use Rattle.rank_text.specs.Printer.Canonical.{program_text, text_from}
use Rattle.rank_text.proofs.printer.program.print.Given as goal

-- the lines so far and those of the rest are the whole text, and each open block has its statement
abbrev pub invariant-loop-form : goal.invariant-loop-form
invariant-loop-form l = record {
  text : l.text.items ++ text_from l.depth (forms_seen (drop l.form-index l.forms)) ≡ program_text (forms_seen l.forms);
  bounded : l.depth ≤ l.form-index;
}
