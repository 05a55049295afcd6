use Rattle.std.proofs.Common.{ℕ, List, [], ◌∷◌, ◌++◌, length, ap, sym, ◌∙◌}
use Rattle.rank_text.specs.declared.grammar.form.Form as source_form
use Rattle.rank_text.specs.Grammar.Forms.{var_form}
use Rattle.telling.specs.Lines.{repeated}
use Rattle.telling.proofs.Putting.{so_many}
use Rattle.telling.proofs.program.statements.declared.Goals as goal

-- it has the line 0
pub returns-clause-lines : goal.returns-clause-lines
returns-clause-lines c =
    so_many c.new-all.result.forms.items c.put.new.forms.items c.new-all.result.lines.items c.stand_on.new.self.lines.items
    (var_form c.args.added.now.reply ∷ []) 0
    (ap (λ (xs : List ℕ). length xs) c.new-all.ensures.lines ∙ sym (ap (λ (fs : List source_form.Form). length fs) c.new-all.ensures.forms))
    c.in_ok-put.ensures c.in_ok-stand_on.ensures.lines
    ∙ ap (λ (xs : List ℕ). xs ++ repeated 0 1) c.new-all.ensures.lines
