use Rattle.rank_text.proofs.GrammarLaws.LexLaws.{one_lexing}
use Rattle.rank_text.proofs.grammar.lexer.law_one_lexing.Goals as goal

pub returns : goal.returns
returns c = one_lexing
