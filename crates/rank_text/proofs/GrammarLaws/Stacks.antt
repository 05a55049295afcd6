-- The reader's stack in the code and in the model.
use Rattle.std.proofs.Common.{◌≡◌, ◌≢◌, ℕ, List, [], ◌∷◌, ◌++◌, Result, Ok, Err, IfOk, refl, ap, sym, subst}
use Rattle.std.specs.declared.alloc.AllocError.{AllocError}
use Rattle.rank_text.specs.Grammar.Tree.{Tree, variable}
use Rattle.rank_text.specs.Grammar.Reader.{has, named, arrive, inside, close, next, end_tree, end_before}
use Rattle.rank_text.specs.declared.grammar.token.Token.{Token}
use Rattle.rank_text.specs.declared.grammar.token.Token.TheVariants as t
use Rattle.rank_text.specs.Grammar.Reader as r
use Rattle.rank_text.specs.declared.grammar.reader.Bracket.{Bracket}
use Rattle.rank_text.specs.declared.grammar.reader.Level.{Level}
use Rattle.rank_text.specs.declared.grammar.reader.Step.{Step}
use Rattle.rank_text.specs.Grammar.Seen.{stack_of, bracket_of, level_of, Goes}

-- the bracket that the code pushes last is the innermost
pub stack_of_push : (items : List (Bracket × Level)) (b : Bracket × Level)
    → stack_of (items ++ b ∷ []) ≡ (bracket_of b.0, level_of b.1) ∷ stack_of items
stack_of_push [] b = refl
stack_of_push (x ∷ items) b = ap (λ s. s ++ (bracket_of x.0, level_of x.1) ∷ []) (stack_of_push items b)

-- a step that is made behind the innermost bracket is one of the stack that it was taken from
pub closed_goes : (o : Result Step AllocError) (old new : List (Bracket × Level)) (b : Bracket × Level) (token : Token) (d e p : Tree) (c a : r.Left)
    → old ≡ new ++ b ∷ [] → d ≡ e
    → IfOk o (λ step. (s : List (Bracket × Level)) → Goes step s (close token ((bracket_of b.0, level_of b.1) ∷ stack_of s) d) (Err (inside (bracket_of b.0))))
    → IfOk o (λ step. Goes step new (close token (stack_of old) e) (end_tree (has c a (stack_of old) p)))
closed_goes (Err x) old new b token d e p c a q is h = tt
closed_goes (Ok step) old new b token d e p c a q is h =
    subst (λ z. Goes step new (close token (stack_of z) e) (end_tree (has c a (stack_of z) p))) (sym q)
    (subst (λ z. Goes step new (close token z e) (end_tree (has c a z p))) (sym (stack_of_push new b))
    (subst (λ z. Goes step new (close token ((bracket_of b.0, level_of b.1) ∷ stack_of new) z) (Err (inside (bracket_of b.0)))) is (h new)))

-- a name that doesn't go on as an item is a variable
pub next_named : (f : r.Level) (s : r.Stack) (x : List ℕ) (token : Token) → token ≢ t.OpenBracket
    → next (named f s x) token ≡ next (arrive f s (variable x)) token
next_named f s x t.OpenBracket h = absurd (h refl)
next_named f s x _ h = refl

-- where an expression ends, a name is a variable
pub end_named : (f : r.Level) (s : r.Stack) (x : List ℕ) → end_tree (named f s x) ≡ end_tree (arrive f s (variable x))
end_named f [] x = refl
end_named f (b ∷ s) x = refl

-- so it is before a token that can't come
pub before_named : (f : r.Level) (s : r.Stack) (x : List ℕ) (token : Token) → end_before (named f s x) token ≡ end_before (arrive f s (variable x)) token
before_named f s x (t.Operator o) = refl
before_named f s x _ = end_named f s x
