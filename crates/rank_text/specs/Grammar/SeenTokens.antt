-- What the lexer's values stand for.
use Rattle.std.specs.Global.{Vec}
use Rattle.std.specs.Prelude.{ℕ, List, Option, Some, None, Bool, true, false}
use Rattle.rank_text.specs.declared.grammar.token.Token.{Token}
use Rattle.rank_text.specs.declared.grammar.lexer.Pending as source_pending
use Rattle.rank_text.specs.Grammar.Tokens.{Pending, nothing, word, digits, sign, whole, tokens_from}

-- what is pending in the code
abbrev pub pending_of : source_pending.Pending → Pending
pending_of source_pending.TheVariants.Nothing = nothing
pending_of (source_pending.TheVariants.Word x) = word x
pending_of (source_pending.TheVariants.Digits n) = digits n
pending_of (source_pending.TheVariants.Sign b) = sign b
pending_of (source_pending.TheVariants.Whole token) = whole token

-- what is pending, where something is
abbrev pub pending_in : Option source_pending.Pending → Option Pending
pending_in None = None
pending_in (Some p) = Some (pending_of p)

-- the tokens, where what was pending is a token too
abbrev pub flush_of : Bool → List Token → Option (List Token)
flush_of true ts = Some ts
flush_of false ts = None

-- the tokens of what the code has next and of the bytes that follow
abbrev pub from_next : Option source_pending.Pending → List ℕ → Option (List Token)
from_next None bs = None
from_next (Some p) bs = tokens_from (pending_of p) bs

-- the tokens that the code has, where it has any
abbrev pub tokens_in : Option (Vec Token) → Option (List Token)
tokens_in None = None
tokens_in (Some ts) = Some ts.items
