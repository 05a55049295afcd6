use Rattle.rank_text.proofs.GrammarLaws.Exact.{found, only}
use Rattle.rank_text.proofs.grammar.reader.expression.Goals as goal

pub returns-clause-found : goal.returns-clause-found
returns-clause-found c = found _ _ c.whole_expression.ensures

pub returns-clause-only : goal.returns-clause-only
returns-clause-only c = only _ _ c.whole_expression.ensures
