use Rattle.rank_text.proofs.GrammarLaws.FormLaws.{one_form}
use Rattle.rank_text.proofs.grammar.forms.law_one_form.Goals as goal

pub returns : goal.returns
returns c = one_form
