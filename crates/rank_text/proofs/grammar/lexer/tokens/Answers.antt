use Rattle.rank_text.proofs.GrammarLaws.LexLaws.{found, only}
use Rattle.rank_text.proofs.grammar.lexer.tokens.Goals as goal

pub returns-clause-found : goal.returns-clause-found
returns-clause-found c = found _ _ c.tokens_read.ensures

pub returns-clause-only : goal.returns-clause-only
returns-clause-only c = only _ _ c.tokens_read.ensures
