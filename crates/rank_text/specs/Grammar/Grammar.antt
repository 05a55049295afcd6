-- Which tokens spell which expression (the language's own manual, docs/LANGUAGE.md).
use Rattle.std.specs.Prelude.{◌≡◌, ℕ, List, [], ◌∷◌, ◌++◌}
use Rattle.rank_text.specs.declared.grammar.token.Operator.{Operator}
use Rattle.rank_text.specs.declared.grammar.token.Operator.TheVariants.{Add, Subtract, Multiply, Divide, Remainder}
use Rattle.rank_text.specs.declared.grammar.token.Operator.TheVariants.{Equal, NotEqual, Less, LessEqual, Greater, GreaterEqual}
use Rattle.rank_text.specs.declared.grammar.token.Reading.{Reading}
use Rattle.rank_text.specs.declared.grammar.token.Strength.{Strength}
use Rattle.rank_text.specs.declared.grammar.token.Strength.TheVariants.{Compares, Adds, Multiplies}
use Rattle.rank_text.specs.declared.grammar.token.Token.{Token}
use Rattle.rank_text.specs.declared.grammar.token.Token.TheVariants as t
use Rattle.rank_text.specs.Grammar.Tree.{Tree, number, variable, item, reading, negation, operation}

-- how strongly an operator binds
abbrev pub strength : Operator → Strength
strength Add = Adds
strength Subtract = Adds
strength Multiply = Multiplies
strength Divide = Multiplies
strength Remainder = Multiplies
strength Equal = Compares
strength NotEqual = Compares
strength Less = Compares
strength LessEqual = Compares
strength Greater = Compares
strength GreaterEqual = Compares

-- the sign of a negation and of a difference
abbrev pub minus : Token
minus = t.Operator Subtract

-- the five rules of expressions, from the loosest to the tightest
pub data Rule : Type 0 where
  whole : Rule
  sum : Rule
  product : Rule
  unary : Rule
  atom : Rule

-- the tokens spell the expression by the rule: an atom is a number, a name, a word to read, an item or what stands in
-- parentheses; signs bind more tightly than products, products than sums, sums than the one comparison, from the left
pub data Spells : Rule → List Token → Tree → Type 0 where
  is_number : {n : ℕ} → Spells atom (t.Number n ∷ []) (number n)
  is_variable : {x : List ℕ} → Spells atom (t.Name x ∷ []) (variable x)
  is_reading : {r : Reading} → Spells atom (t.Reading r ∷ []) (reading r)
  is_item : {x : List ℕ} {ts : List Token} {e : Tree}
      → Spells whole ts e → Spells atom (t.Name x ∷ t.OpenBracket ∷ (ts ++ t.CloseBracket ∷ [])) (item x e)
  in_parentheses : {ts : List Token} {e : Tree}
      → Spells whole ts e → Spells atom (t.OpenParenthesis ∷ (ts ++ t.CloseParenthesis ∷ [])) e
  is_atom : {ts : List Token} {e : Tree} → Spells atom ts e → Spells unary ts e
  negated : {ts : List Token} {e : Tree} → Spells unary ts e → Spells unary (minus ∷ ts) (negation e)
  is_unary : {ts : List Token} {e : Tree} → Spells unary ts e → Spells product ts e
  multiplied : {o : Operator} {xs ys : List Token} {a b : Tree}
      → strength o ≡ Multiplies → Spells product xs a → Spells unary ys b
      → Spells product (xs ++ t.Operator o ∷ ys) (operation o a b)
  is_product : {ts : List Token} {e : Tree} → Spells product ts e → Spells sum ts e
  added : {o : Operator} {xs ys : List Token} {a b : Tree}
      → strength o ≡ Adds → Spells sum xs a → Spells product ys b
      → Spells sum (xs ++ t.Operator o ∷ ys) (operation o a b)
  is_sum : {ts : List Token} {e : Tree} → Spells sum ts e → Spells whole ts e
  compared : {o : Operator} {xs ys : List Token} {a b : Tree}
      → strength o ≡ Compares → Spells sum xs a → Spells sum ys b
      → Spells whole (xs ++ t.Operator o ∷ ys) (operation o a b)
