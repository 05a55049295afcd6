-- Where an expression stops.
--
-- An operand and what closes the open brackets complete what was read before.
use Rattle.std.proofs.Common.{◌≡◌, List, [], ◌∷◌, ◌++◌, Option, Some, None, Result, Ok, Err, refl, ap, ◌∙◌}
use Rattle.rank_text.specs.declared.grammar.misfit.Expected.{Expected}
use Rattle.rank_text.specs.declared.grammar.token.Token.{Token}
use Rattle.rank_text.specs.declared.grammar.token.Token.TheVariants as t
use Rattle.rank_text.specs.Grammar.Tree.{Tree, number, variable, item}
use Rattle.rank_text.specs.Grammar.Reader.{Left, parenthesis, index_of, Stack, State, wants, named, has}
use Rattle.rank_text.specs.Grammar.Reader.{fresh, join, negate, all_of, next, end_tree, end_before, with_rest, go_on, read, expression_at}
use Rattle.rank_text.proofs.GrammarLaws.Complete.{NoBracket, Ends, no_bracket, stops, read_named}
use Rattle.rank_text.proofs.GrammarLaws.Loop.{goes_on, ends}
use Rattle.rank_text.proofs.GrammarLaws.MisfitLaws.Stopping.{FrontIs, GoodFront, fails, front_behind}

-- what closes the open brackets
abbrev closers : Stack → List Token
closers [] = []
closers ((parenthesis, f) ∷ s) = t.CloseParenthesis ∷ closers s
closers ((index_of x, f) ∷ s) = t.CloseBracket ∷ closers s

-- what makes an expression of what a reader has
abbrev completion : State → List Token
completion (wants f s) = t.Number 0 ∷ closers s
completion (named f s x) = closers s
completion (has c a s e) = closers s

-- with that the reader has an expression
abbrev Completes : State → Type 0
Completes st = (e : Tree) × ((tail : List Token) → Ends tail → read st (completion st ++ tail) ≡ Ok (e, tail))

-- after an operand the closing brackets complete an expression
completes_has : (s : Stack) (c a : Left) (e : Tree) → Completes (has c a s e)
completes_has [] c a e = (all_of c a e, stops c a e)
completes_has ((parenthesis, f) ∷ s) c a e = completes_has s f.compared f.added (join f.multiplied (negate f.minuses (all_of c a e)))
completes_has ((index_of x, f) ∷ s) c a e = completes_has s f.compared f.added (join f.multiplied (negate f.minuses (item x (all_of c a e))))

-- what closes brackets is none that opens
closing : (s : Stack) (tail : List Token) → Ends tail → NoBracket (closers s ++ tail)
closing [] tail h = no_bracket tail h
closing ((parenthesis, f) ∷ s) tail h = tt
closing ((index_of x, f) ∷ s) tail h = tt

-- each state of the reader can be completed to an expression
completes : (st : State) → Completes st
completes (wants f s) = completes_has s f.compared f.added (join f.multiplied (negate f.minuses (number 0)))
completes (named f s x) =
    let c = completes_has s f.compared f.added (join f.multiplied (negate f.minuses (variable x))) in
    (c.0, λ tail h. read_named f s x (closers s ++ tail) (closing s tail h) ∙ c.1 tail h)
completes (has c a s e) = completes_has s c a e

-- an expression that has ended goes on before nothing that ends one
ended_reads : (st : State) (e : Tree) → end_tree st ≡ Ok e → (more : List Token) → Ends more → read st more ≡ Ok (e, more)
ended_reads (wants f s) e q more h = absurd cc
ended_reads (named f [] x) e q more h =
    read_named f [] x more (no_bracket more h) ∙ stops f.compared f.added (join f.multiplied (negate f.minuses (variable x))) more h
    ∙ ap (λ o. with_rest o more) q
ended_reads (named f (b ∷ s) x) e q more h = absurd cc
ended_reads (has c a [] p) e q more h = stops c a p more h ∙ ap (λ o. with_rest o more) q
ended_reads (has c a (b ∷ s) p) e q more h = absurd cc

-- where a token ends an expression, the end of the line would
before_end : (st : State) (token : Token) (e : Tree) → end_before st token ≡ Ok e → end_tree st ≡ Ok e
before_end (wants f s) token e q = q
before_end (named f s x) (t.Operator o) e q = absurd cc
before_end (named f s x) _ e q = q
before_end (has c a s p) (t.Operator o) e q = absurd cc
before_end (has c a s p) _ e q = q

-- where the tokens end
at_end : (st : State) (o : Result Tree Expected) → end_tree st ≡ o → FrontIs (read st) [] (with_rest o [])
at_end st (Ok e) q = ([], refl, ended_reads st e q, tt)
at_end st (Err x) q = let c = completes st in ([], completion st, c.0, refl, c.1, fails (ap (λ o. with_rest o []) q))

-- at a token that can't come
at_token : (st : State) (token : Token) (ts : List Token) → next st token ≡ None → (o : Result Tree Expected) → end_before st token ≡ o
    → FrontIs (read st) (token ∷ ts) (with_rest o (token ∷ ts))
at_token st token ts n (Ok e) q = (
  [],
  refl,
  ended_reads st e (before_end st token e q),
  λ more. ends st token more n ∙ ap (λ o. with_rest o (token ∷ more)) q,
)
at_token st token ts n (Err x) q =
    let c = completes st in
    ([], completion st, c.0, refl, c.1, λ more. fails (ends st token more n ∙ ap (λ o. with_rest o (token ∷ more)) q))

-- a token is read, or ends the reading
front_token : (st : State) (token : Token) (ts : List Token) (o : Option State) → next st token ≡ o
    → ((st' : State) → FrontIs (read st') ts (read st' ts))
    → FrontIs (read st) (token ∷ ts) (go_on o (λ st'. read st' ts) (with_rest (end_before st token) (token ∷ ts)))
front_token st token ts None n more = at_token st token ts n (end_before st token) refl
front_token st token ts (Some st') n more = front_behind (read st) (read st') token (λ us. goes_on st st' token us n) ts (read st' ts) (more st')

-- from each state on the reader is a good reader of the front
read_front : (ts : List Token) (st : State) → FrontIs (read st) ts (read st ts)
read_front [] st = at_end st (end_tree st) refl
read_front (token ∷ ts) st = front_token st token ts (next st token) refl (λ st'. read_front ts st')

-- so the reader of an expression is a good reader of the front
pub expression_front : GoodFront expression_at
expression_front ts = read_front ts (wants fresh [])
