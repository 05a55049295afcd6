-- Expressions as trees, without where they lie in memory (the language's own manual, docs/LANGUAGE.md).
use Rattle.std.specs.Prelude.{ℕ, List}
use Rattle.rank_text.specs.declared.grammar.token.Operator.{Operator}
use Rattle.rank_text.specs.declared.grammar.token.Reading.{Reading}
use Rattle.rank_text.specs.declared.grammar.written.Written.{Written}
use Rattle.rank_text.specs.declared.grammar.written.Written.TheVariants as made

-- an expression whose variables and arrays are named
pub data Tree : Type 0 where
  number : (n : ℕ) → Tree
  variable : (name : List ℕ) → Tree
  item : (name : List ℕ) (place : Tree) → Tree
  reading : (r : Reading) → Tree
  negation : (e : Tree) → Tree
  operation : (o : Operator) (a b : Tree) → Tree

-- the tree of an expression in the code
abbrev pub tree_of : Written → Tree
tree_of (made.Number n) = number n
tree_of (made.Variable x) = variable x
tree_of (made.Item' x p e) = item x (tree_of e)
tree_of (made.Reading r) = reading r
tree_of (made.Negation' p e) = negation (tree_of e)
tree_of (made.Operation' o p a q b) = operation o (tree_of a) (tree_of b)
