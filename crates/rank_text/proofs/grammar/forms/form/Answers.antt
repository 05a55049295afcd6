use Rattle.rank_text.proofs.GrammarLaws.FormLaws.{found, only}
use Rattle.rank_text.proofs.GrammarLaws.MisfitLaws.Misfits.{misfit}
use Rattle.rank_text.proofs.grammar.forms.form.Goals as goal

pub returns-clause-found : goal.returns-clause-found
returns-clause-found c = found _ _ c.form_read.ensures

pub returns-clause-only : goal.returns-clause-only
returns-clause-only c = only _ _ c.form_read.ensures

pub returns-clause-misfit : goal.returns-clause-misfit
returns-clause-misfit c = misfit _ _ c.form_read.ensures
