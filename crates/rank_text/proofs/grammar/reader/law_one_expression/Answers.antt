use Rattle.rank_text.proofs.GrammarLaws.Exact.{one_tree}
use Rattle.rank_text.proofs.grammar.reader.law_one_expression.Goals as goal

pub returns : goal.returns
returns c = one_tree
