-- What code keeps of a form.
use Rattle.std.specs.Prelude.{ℕ, Option, Some, None, if◌then◌else◌}
use Rattle.rank_text.specs.Lines.Numbers.{kept}
use Rattle.rank_text.specs.declared.script.fault.ScriptFaultKind.{ScriptFaultKind}
use Rattle.rank_text.specs.declared.script.fault.ScriptFaultKind.TheVariants.{BadLine, BadRank}
use Rattle.rank_text.specs.declared.script.form.ScriptForm.{ScriptForm}
use Rattle.rank_text.specs.declared.script.line.ScriptLine.{ScriptLine}
use Rattle.rank_text.specs.Scripts.Script.{is_bad, is_foreign}

-- a form's order, with its numbers as 32 bits keep them
abbrev pub form_seen : Option ScriptLine → Option ScriptForm
form_seen None = None
form_seen (Some line) = Some (record { order = line.order; rank = kept line.rank; clock = kept line.clock })

-- the lower fault of what isn't skipped
abbrev pub form_fault : ℕ → Option ScriptLine → Option ScriptFaultKind
form_fault ranks order = if is_bad order then Some BadLine else (if is_foreign ranks order then Some BadRank else None)
