use Rattle.std.proofs.Common.{◌++◌, ap, ◌∙◌}
use Rattle.rank_text.proofs.PrinterLaws.LineTexts.{indented}
use Rattle.rank_text.proofs.printer.program.indent.Goals as goal

pub loop-i-preserved : goal.loop-i-preserved
loop-i-preserved c =
    indented c.args.text.now.items c.loop-i.text.items c.extend_from_slice.new.self.items c.loop-i._i c.loop-i.invariant
    (c.in_ok-extend_from_slice.ensures.items ∙ ap (λ z. c.loop-i.text.items ++ z) c.as_slice.ensures)
