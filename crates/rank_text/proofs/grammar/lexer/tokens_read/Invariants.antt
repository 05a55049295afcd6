use Rattle.std.proofs.Common.{◌≡◌, drop, Some}
use Rattle.rank_text.specs.Grammar.Tokens.{and_after, tokens_from, tokens_of}
use Rattle.rank_text.specs.Grammar.SeenTokens.{pending_of}
use Rattle.rank_text.proofs.grammar.lexer.tokens_read.Given as goal

-- the tokens so far, what is pending and the bytes that follow make the tokens of the line
abbrev pub invariant-loop-byte : goal.invariant-loop-byte
invariant-loop-byte l = and_after (Some l.tokens.items) (tokens_from (pending_of l.pending) (drop l.byte-index l.line)) ≡ tokens_of l.line
