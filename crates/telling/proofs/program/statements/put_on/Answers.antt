use Rattle.rank_text.specs.Checker.SeenLines.{forms_seen}
use Rattle.rank_text.specs.Grammar.SeenForms.{form_seen}
use Rattle.telling.specs.Telling.{with_told}
use Rattle.telling.proofs.Putting.{so_many}
use Rattle.telling.proofs.program.statements.put_on.Goals as goal

-- they have this line
pub returns-clause-lines : goal.returns-clause-lines
returns-clause-lines c =
    so_many c.args.to.now.forms.items c.put_with_told.new.to.items c.args.to.now.lines.items c.stand_on.new.self.lines.items
    (with_told c.args.telling c.args.added.now (forms_seen c.args.forms.now) (form_seen c.args.form.now)) c.args.line c.requires
    c.in_ok-put_with_told.ensures c.in_ok-stand_on.ensures.lines
