-- Expressions and statements that read variables and arrays by their places (docs/LANGUAGE.md:
-- meaning of one step).
use Rattle.std.specs.Prelude.{ℕ, ℤ}
use Rattle.rank_text.specs.declared.grammar.token.Operator.{Operator}
use Rattle.rank_text.specs.declared.grammar.token.Reading.{Reading}
use Rattle.rank_text.specs.declared.grammar.token.Reduction.{Reduction}

-- an expression, whose variables and arrays are given by their places in the order of declaration
pub data Placed : Type 0 where
  number : (n : ℤ) → Placed
  variable : (place : ℕ) → Placed
  item : (place : ℕ) (index : Placed) → Placed
  reading : (r : Reading) → Placed
  negation : (e : Placed) → Placed
  operation : (o : Operator) (a b : Placed) → Placed

-- the source or the tag that a receive or a probe asks for
pub data Pattern : Type 0 where
  any : Pattern
  value : (e : Placed) → Pattern

-- what a send gives: one item, or all items of an array
pub data Payload : Type 0 where
  one : (e : Placed) → Payload
  all_of : (place : ℕ) → Payload

-- where a receive puts the items: into a variable, or to the beginning of an array
pub data Buffer : Type 0 where
  into_variable : (place : ℕ) → Buffer
  into_array : (place : ℕ) → Buffer

-- a statement that all ranks make together: a barrier, a broadcast from a root into a buffer, or the reduction of a value of
-- each rank into a variable of the root
pub data Collective : Type 0 where
  barrier : Collective
  broadcast : (root : Placed) (buffer : Buffer) → Collective
  reduce : (reduction : Reduction) (root value : Placed) (place : ℕ) → Collective

-- a statement without parts
pub data Simple : Type 0 where
  declare : (place : ℕ) → Simple
  declare_array : (place : ℕ) → Simple
  assign : (place : ℕ) (e : Placed) → Simple
  assign_item : (place : ℕ) (index e : Placed) → Simple
  send : (destination tag : Placed) (payload : Payload) → Simple
  receive : (source tag : Pattern) (buffer : Buffer) → Simple
  probe : (source tag : Pattern) → Simple
  try_probe : (source tag : Pattern) (flag : ℕ) → Simple
  print : (e : Placed) → Simple
  collect : (c : Collective) → Simple

-- a line's statement by itself, without where it leads; an `end` doesn't say what it closes
pub data Step : Type 0 where
  does : (s : Simple) → Step
  tests : (e : Placed) → Step
  repeats : (e : Placed) → Step
  otherwise : Step
  closes : Step
