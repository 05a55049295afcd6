use Rattle.std.proofs.Common.{Err, List, ap, subst, ◌∙◌}
use Rattle.rank_text.specs.Checker.Faults.{IsFaultOf}
use Rattle.rank_text.specs.Grammar.Forms.{Form}
use Rattle.rank_text.specs.Printer.Canonical.{program_text}
use Rattle.telling.specs.Telling.IsUntellable.{no_text}
use Rattle.telling.proofs.program.with_name.Goals as goal

-- the text that was made has this fault
pub returns-in-Err-Fault-clause-past : goal.returns-in-Err-Fault-clause-past
returns-in-Err-Fault-clause-past c = λ _.
    let fault = c.in-Err-Fault.field-0-0 in
    no_text fault c.requires.text c.requires.name
    (subst (λ (fs : List Form). IsFaultOf (program_text fs) fault.line fault.kind) c.in-Ok.ensures.forms
    (c.into_program.ensures.fault fault (c.in-Err-Fault.is ∙ ap Err c.in-Err-Fault.field-0-is)))
