use Rattle.std.proofs.Common.{◌≡◌, ◌+◌, ◌≤◌, length}
use Rattle.rank_text.specs.Grammar.Reader.{read, expression_at}
use Rattle.rank_text.specs.Grammar.Seen.{state_of, stack_of, minuses_of}
use Rattle.rank_text.proofs.grammar.reader.expression_at.Given as goal

-- the reader goes on with the rest as a new one does with all
abbrev pub invariant-loop-token : goal.invariant-loop-token
invariant-loop-token l = record {
  going : read (state_of l.state (stack_of l.stack.items)) l.rest ≡ expression_at l.tokens;
  signs : minuses_of l.state + length l.rest ≤ length l.tokens;
}

abbrev pub decreases-loop-token : goal.decreases-loop-token
decreases-loop-token l = length l.rest
