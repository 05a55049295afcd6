-- A turn of the reader's loop.
use Rattle.std.proofs.Common.{◌≡◌, ℕ, ◌+◌, ◌≤◌, suc, List, ◌∷◌, Option, Some, None, refl, ap, subst, arith}
use Rattle.rank_text.specs.declared.grammar.token.Operator.{Operator}
use Rattle.rank_text.specs.declared.grammar.token.Operator.TheVariants.{Subtract}
use Rattle.rank_text.specs.declared.grammar.token.Strength.{Strength}
use Rattle.rank_text.specs.declared.grammar.token.Strength.TheVariants.{Compares, Adds, Multiplies}
use Rattle.rank_text.specs.declared.grammar.token.Token.{Token}
use Rattle.rank_text.specs.declared.grammar.token.Token.TheVariants as t
use Rattle.rank_text.specs.declared.grammar.reader.State as source_state
use Rattle.rank_text.specs.Grammar.Tree.{Tree, variable}
use Rattle.rank_text.specs.Grammar.Grammar.{strength}
use Rattle.rank_text.specs.Grammar.Reader.{Left, Level, parenthesis, index_of, Stack, State, wants, named, has}
use Rattle.rank_text.specs.Grammar.Reader.{operate, close, have_next, all_of, join, negate, sign, next, end_before, with_rest, go_on, read}
use Rattle.rank_text.specs.Grammar.Seen.{minuses_of, state_of}

-- a token that can come there is taken, and the rest is read from the next state
pub goes_on : (st st' : State) (token : Token) (ts : List Token) → next st token ≡ Some st' → read st (token ∷ ts) ≡ read st' ts
goes_on st st' token ts q = ap (λ o. go_on o (λ z. read z ts) (with_rest (end_before st token) (token ∷ ts))) q

-- a token that can't come there ends the reading, and is the first of the rest
pub ends : (st : State) (token : Token) (ts : List Token) → next st token ≡ None → read st (token ∷ ts) ≡ with_rest (end_before st token) (token ∷ ts)
ends st token ts q = ap (λ o. go_on o (λ z. read z ts) (with_rest (end_before st token) (token ∷ ts))) q

-- the signs before the operand that is wanted
abbrev minuses : State → ℕ
minuses (wants f s) = f.minuses
minuses (named f s x) = 0
minuses (has c a s e) = 0

-- the state has at most this many signs, where there is one
abbrev AtMost : Option State → ℕ → Type 0
AtMost None n = Unit {0}
AtMost (Some st) n = minuses st ≤ n

-- behind an operator after a product there is at most one sign
operated : (k : Strength) (o : Operator) (c a : Left) (s : Stack) (e : Tree) → AtMost (operate k o c a s e) 1
operated Multiplies o c a s e = omega arith
operated Adds o c a s e = omega arith
operated Compares o None a s e = omega arith
operated Compares o (Some l) a s e = tt

-- behind a bracket that closes there is at most one
closed : (token : Token) (s : Stack) (e : Tree) → AtMost (close token s e) 1
closed t.CloseParenthesis ((parenthesis, f) ∷ s) e = omega arith
closed t.CloseBracket ((index_of x, f) ∷ s) e = omega arith
closed _ _ e = tt

-- behind any token after a product there is at most one
has_next : (c a : Left) (s : Stack) (e : Tree) (token : Token) → AtMost (have_next c a s e token) 1
has_next c a s e (t.Operator o) = operated (strength o) o c a s e
has_next c a s e token = closed token s (all_of c a e)

-- an operator where an operand is wanted brings at most one sign more
signed : (o : Operator) (f : Level) (s : Stack) → AtMost (sign o f s) (suc f.minuses)
signed Subtract f s = omega arith
signed _ f s = tt

-- so does any token in any state
at_most : (st : State) (token : Token) → AtMost (next st token) (suc (minuses st))
at_most (wants f s) (t.Number n) = omega arith
at_most (wants f s) (t.Name x) = omega arith
at_most (wants f s) (t.Reading r) = omega arith
at_most (wants f s) t.OpenParenthesis = omega arith
at_most (wants f s) (t.Operator o) = signed o f s
at_most (wants f s) _ = tt
at_most (named f s x) t.OpenBracket = omega arith
at_most (named f s x) token = has_next f.compared f.added s (join f.multiplied (negate f.minuses (variable x))) token
at_most (has c a s e) token = has_next c a s e token

-- the code's state has as many signs as the one it stands for
minuses_seen : (st : source_state.State) (s : Stack) → minuses (state_of st s) ≡ minuses_of st
minuses_seen (source_state.TheVariants.Wants f) s = refl
minuses_seen (source_state.TheVariants.Named f x) s = refl
minuses_seen (source_state.TheVariants.Has c a e) s = refl

-- a token brings at most one sign more
pub signs : (st st' : source_state.State) (s s' : Stack) (token : Token) → next (state_of st s) token ≡ Some (state_of st' s')
    → minuses_of st' ≤ minuses_of st + 1
signs st st' s s' token q =
    let h = subst (λ o. AtMost o (suc (minuses (state_of st s)))) q (at_most (state_of st s) token) in
    omega (arith, h, minuses_seen st s, minuses_seen st' s')
