use Rattle.rank_text.proofs.GrammarLaws.Stacks.{closed_goes}
use Rattle.rank_text.proofs.grammar.reader.brackets.closing.Goals as goal

pub returns-in-Some : goal.returns-in-Some
returns-in-Some c =
    closed_goes _ _ _ (c.in-Some.bracket, c.in-Some.level) _ _ _ _ _ _ c.in-Some.ensures.items c.in_ok-operand.ensures c.closed.ensures
