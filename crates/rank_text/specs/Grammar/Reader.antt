-- Expressions read from the left, a token at a time (the language's own manual, docs/LANGUAGE.md).
--
-- `Spells` says the same as a grammar. The reader has a stack of its own, so nesting costs no recursion.
use Rattle.std.specs.Prelude.{ℕ, zero, suc, List, [], ◌∷◌, Option, Some, None, Result, Ok, Err}
use Rattle.rank_text.specs.declared.grammar.misfit.Expected.{Expected}
use Rattle.rank_text.specs.declared.grammar.misfit.Expected.TheVariants.{Operand, InParentheses, InBrackets, OneComparison, Nothing}
use Rattle.rank_text.specs.declared.grammar.token.Operator.{Operator}
use Rattle.rank_text.specs.declared.grammar.token.Operator.TheVariants.{Add, Subtract, Multiply, Divide, Remainder}
use Rattle.rank_text.specs.declared.grammar.token.Operator.TheVariants.{Equal, NotEqual, Less, LessEqual, Greater, GreaterEqual}
use Rattle.rank_text.specs.declared.grammar.token.Strength.{Strength}
use Rattle.rank_text.specs.declared.grammar.token.Strength.TheVariants.{Compares, Adds, Multiplies}
use Rattle.rank_text.specs.declared.grammar.token.Token.{Token}
use Rattle.rank_text.specs.declared.grammar.token.Token.TheVariants as t
use Rattle.rank_text.specs.Grammar.Tree.{Tree, number, variable, item, reading, negation, operation}
use Rattle.rank_text.specs.Grammar.Grammar.{strength}

-- a left operand with its operator, or none
abbrev pub Left : Type 0
Left = Option (Tree × Operator)

-- what stands before an operand in its brackets: left operands that wait for it, the loosest first, and the signs before it
pub record Level : Type 0 where
  pub compared : Left
  pub added : Left
  pub multiplied : Left
  pub minuses : ℕ

-- what was opened: a parenthesis, or the index of an array
pub data Bracket : Type 0 where
  parenthesis : Bracket
  index_of : (name : List ℕ) → Bracket

-- the open brackets with what stands before them, the innermost first
abbrev pub Stack : Type 0
Stack = List (Bracket × Level)

-- a reader wants an operand, or has a name that may go on as an item, or has a product that may go on
pub data State : Type 0 where
  wants : Level → Stack → State
  named : Level → Stack → (name : List ℕ) → State
  has : (compared added : Left) → Stack → Tree → State

-- an operand with what waits for it on its left
abbrev pub join : Left → Tree → Tree
join None e = e
join (Some l) e = operation l.1 l.0 e

-- an operand under as many signs
abbrev pub negate : ℕ → Tree → Tree
negate zero e = e
negate (suc n) e = negate n (negation e)

-- nothing stands before the operand yet
abbrev pub fresh : Level
fresh = record { compared = None; added = None; multiplied = None; minuses = 0 }

-- an operand has come
abbrev pub arrive : Level → Stack → Tree → State
arrive f s e = has f.compared f.added s (join f.multiplied (negate f.minuses e))

-- a product with the sum and the comparison that wait for it
abbrev pub all_of : Left → Left → Tree → Tree
all_of c a e = join c (join a e)

-- the operator comes after a product
abbrev pub operate : Strength → Operator → Left → Left → Stack → Tree → Option State
operate Multiplies o c a s e = Some (wants (record { compared = c; added = a; multiplied = Some (e, o); minuses = 0 }) s)
operate Adds o c a s e = Some (wants (record { compared = c; added = Some (join a e, o); multiplied = None; minuses = 0 }) s)
operate Compares o None a s e = Some (wants (record { compared = Some (join a e, o); added = None; multiplied = None; minuses = 0 }) s)
operate Compares o (Some l) a s e = None

-- the token closes the innermost bracket, if it is of that sort
abbrev pub close : Token → Stack → Tree → Option State
close t.CloseParenthesis ((parenthesis, f) ∷ s) e = Some (arrive f s e)
close t.CloseBracket ((index_of x, f) ∷ s) e = Some (arrive f s (item x e))
close _ _ _ = None

-- the reader after a token behind a product, or none where the token can't come there
abbrev pub have_next : Left → Left → Stack → Tree → Token → Option State
have_next c a s e (t.Operator o) = operate (strength o) o c a s e
have_next c a s e token = close token s (all_of c a e)

-- a sign where an operand is wanted
abbrev pub sign : Operator → Level → Stack → Option State
sign Subtract f s = Some (wants (record f { minuses = suc f.minuses }) s)
sign Add f s = None
sign Multiply f s = None
sign Divide f s = None
sign Remainder f s = None
sign Equal f s = None
sign NotEqual f s = None
sign Less f s = None
sign LessEqual f s = None
sign Greater f s = None
sign GreaterEqual f s = None

-- the reader after a token, or none where the token can't come there
abbrev pub next : State → Token → Option State
next (wants f s) (t.Number n) = Some (arrive f s (number n))
next (wants f s) (t.Name x) = Some (named f s x)
next (wants f s) (t.Reading r) = Some (arrive f s (reading r))
next (wants f s) t.OpenParenthesis = Some (wants fresh ((parenthesis, f) ∷ s))
next (wants f s) (t.Operator o) = sign o f s
next (wants f s) (t.Keyword k) = None
next (wants f s) (t.Reduction r) = None
next (wants f s) t.CloseParenthesis = None
next (wants f s) t.OpenBracket = None
next (wants f s) t.CloseBracket = None
next (wants f s) t.Comma = None
next (wants f s) t.Assign = None
next (wants f s) t.Any = None
next (named f s x) t.OpenBracket = Some (wants fresh ((index_of x, f) ∷ s))
next (named f s x) token = have_next f.compared f.added s (join f.multiplied (negate f.minuses (variable x))) token
next (has c a s e) token = have_next c a s e token

-- what could stand behind a product in the innermost bracket
abbrev pub inside : Bracket → Expected
inside parenthesis = InParentheses
inside (index_of x) = InBrackets

-- the expression that a reader has where no token more belongs to it, or what is expected there
abbrev pub end_tree : State → Result Tree Expected
end_tree (wants f s) = Err Operand
end_tree (named f [] x) = Ok (all_of f.compared f.added (join f.multiplied (negate f.minuses (variable x))))
end_tree (named f (b ∷ s) x) = Err (inside b.0)
end_tree (has c a [] e) = Ok (all_of c a e)
end_tree (has c a (b ∷ s) e) = Err (inside b.0)

-- the same before a token that can't come: no comparison may follow another one, not even behind the expression
abbrev pub end_before : State → Token → Result Tree Expected
end_before (wants f s) token = Err Operand
end_before (named f s x) (t.Operator o) = Err OneComparison
end_before (has c a s e) (t.Operator o) = Err OneComparison
end_before st token = end_tree st

-- what is read from tokens, or the tokens from the one on that doesn't fit, and what is expected in its place
abbrev pub Read : Type 0 → Type 0
Read A = Result A (List Token × Expected)

-- an expression, if there is one, and the rest
abbrev pub with_rest : Result Tree Expected → List Token → Read (Tree × List Token)
with_rest (Err x) rest = Err (rest, x)
with_rest (Ok e) rest = Ok (e, rest)

-- one more token, where it can come
abbrev pub go_on : Option State → (State → Read (Tree × List Token)) → Read (Tree × List Token) → Read (Tree × List Token)
go_on None more stop = stop
go_on (Some st) more stop = more st

-- what a reader finds in the tokens
abbrev pub read : State → List Token → Read (Tree × List Token)
read st [] = with_rest (end_tree st) []
read st (token ∷ tokens) = go_on (next st token) (λ st'. read st' tokens) (with_rest (end_before st token) (token ∷ tokens))

-- the expression at the front, as much of the tokens as belongs to it, and the rest
abbrev pub expression_at : List Token → Read (Tree × List Token)
expression_at tokens = read (wants fresh []) tokens

-- a value, if no token follows it
abbrev pub bare : {A : Type 0} → A → List Token → Read A
bare a [] = Ok a
bare a (token ∷ tokens) = Err (token ∷ tokens, Nothing)

infixl 10 ◌>>=◌
-- the next step, where this one has a result
abbrev pub ◌>>=◌ : {A B : Type 0} → Read A → (A → Read B) → Read B
Ok a >>= f = f a
Err m >>= f = Err m

-- the expression of all of the tokens
abbrev pub whole_expression : List Token → Read Tree
whole_expression tokens = do
  e ← expression_at tokens
  bare e.0 e.1
