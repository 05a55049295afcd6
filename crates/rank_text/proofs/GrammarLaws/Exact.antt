-- Whole tokens, read and spelled.
use Rattle.std.proofs.Common.{◌≡◌, List, [], ◌∷◌, Result, Ok, Err, IfOk, sym, ap, ◌∙◌, subst, append-nil}
use Rattle.std.specs.declared.alloc.AllocError.{AllocError}
use Rattle.rank_text.specs.declared.grammar.token.Token.{Token}
use Rattle.rank_text.specs.Grammar.Tree.{Tree, tree_of}
use Rattle.rank_text.specs.declared.grammar.written.Written.{Written}
use Rattle.rank_text.specs.Grammar.Seen.{tree_in}
use Rattle.rank_text.specs.Grammar.Grammar.{Spells, whole}
use Rattle.rank_text.specs.declared.grammar.misfit.Misfit.{Misfit}
use Rattle.rank_text.specs.Grammar.Reader.{Read, ◌>>=◌, bare, expression_at, whole_expression}
use Rattle.rank_text.proofs.GrammarLaws.Complete.{complete}
use Rattle.rank_text.proofs.GrammarLaws.Sound.{sound, ReadIs}

-- the tokens spell the expression, where there is one
abbrev pub AloneIs : Read Tree → List Token → Type 0
AloneIs (Err m) ts = Unit {0}
AloneIs (Ok e) ts = Spells whole ts e

-- what was read from the front, with nothing after it, is spelled by all
alone_is : (o : Read (Tree × List Token)) (ts : List Token) → ReadIs o [] ts → AloneIs (o >>= (λ e. bare e.0 e.1)) ts
alone_is (Err m) ts h = tt
alone_is (Ok (e, [])) ts h = subst (λ z. Spells whole z e) (sym (h.2 ∙ append-nil h.0)) h.1
alone_is (Ok (e, (x ∷ xs))) ts h = tt

-- the expression of all of the tokens is spelled by them
pub whole_spelled : (ts : List Token) → AloneIs (whole_expression ts) ts
whole_spelled ts = alone_is (expression_at ts) ts (sound ts)

-- what all of the tokens spell is the expression of all of the tokens
pub read_whole : (ts : List Token) (e : Tree) → Spells whole ts e → whole_expression ts ≡ Ok e
read_whole ts e d =
    ap (λ z. expression_at z >>= (λ e. bare e.0 e.1)) (sym (append-nil ts)) ∙ ap (λ o. o >>= (λ e. bare e.0 e.1)) (complete d [] tt)

-- no tokens spell two expressions
pub one_tree : (ts : List Token) (a b : Tree) → Spells whole ts a → Spells whole ts b → a ≡ b
one_tree ts a b d e = let q : whole_expression ts ≡ Ok a = read_whole ts a d in let r : whole_expression ts ≡ Ok b = read_whole ts b e in cc

-- an expression that the code has read is spelled by the tokens
found_of : (o : Result Written Misfit) (ts : List Token) → tree_in o ≡ whole_expression ts → IfOk o (λ e. Spells whole ts (tree_of e))
found_of (Err m) ts q = tt
found_of (Ok e) ts q = subst (λ o. AloneIs o ts) (sym q) (whole_spelled ts)

-- the same of the code's result, unless memory ran out
pub found : (r : Result (Result Written Misfit) AllocError) (ts : List Token) → IfOk r (λ o. tree_in o ≡ whole_expression ts)
    → IfOk r (λ o. IfOk o (λ e. Spells whole ts (tree_of e)))
found (Ok o) ts h = found_of o ts h
found (Err e) ts h = tt

-- an expression that the tokens spell is what the code has read
pub only : (r : Result (Result Written Misfit) AllocError) (ts : List Token) → IfOk r (λ o. tree_in o ≡ whole_expression ts)
    → IfOk r (λ o. (e : Tree) → Spells whole ts e → tree_in o ≡ Ok e)
only (Ok o) ts h = λ e d. h ∙ read_whole ts e d
only (Err e) ts h = tt
