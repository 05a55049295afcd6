use Rattle.std.proofs.Common.{◌≡◌, ◌++◌, ◌-◌, length}
use Rattle.telling.specs.Lines.{repeated}
use Rattle.telling.proofs.lined_forms.LinedForms.stand_on.Given as goal

-- the lines so far and those that are left are all
abbrev pub invariant-loop-left : goal.invariant-loop-left
invariant-loop-left l = record {
  lines : l.self.lines.items ++ repeated l.line l.left
      ≡ l.initial.self.lines.items ++ repeated l.line (length l.initial.self.forms.items - length l.initial.self.lines.items);
  forms : l.self.forms ≡ l.initial.self.forms;
}

abbrev pub decreases-loop-left : goal.decreases-loop-left
decreases-loop-left l = l.left
