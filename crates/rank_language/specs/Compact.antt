-- What a statement's compact form says of its line.
use Rattle.std.specs.Prelude.{◌≡◌, ◌+◌, List, [], ◌∷◌, length, Option, Some, None, IfSome}
use Rattle.rank_text.specs.declared.grammar.token.Operator.TheVariants.{Add, Subtract, Multiply, Divide, Remainder, Equal, NotEqual, Less, LessEqual, Greater, GreaterEqual}
use Rattle.rank_language.specs.declared.compact.Compact.{Compact}
use Rattle.rank_language.specs.declared.compact.Compact.TheVariants as compact
use Rattle.rank_language.specs.declared.compact.Nested.{Nested}
use Rattle.rank_language.specs.Seen.{operand_of}
use Rattle.rank_language.specs.Placed.{Placed, number, variable, item, operation, declare, declare_array, assign}
use Rattle.rank_language.specs.Placed.{assign_item, send, receive, probe, try_probe, print, collect}
use Rattle.rank_language.specs.Correct.{IsProgram}
use Rattle.rank_language.specs.Program.{ProgramValue}
use Rattle.rank_language.specs.Block.{Line, simple_line, if_line, else_line, end_line, while_line, back_line}

-- the expression of an operation on an operation
abbrev pub nested_of : Nested → Placed
nested_of n = operation n.outer (operation n.inner (operand_of n.left) (operand_of n.middle)) (operand_of n.right)

-- A line as a rank makes it by itself, whatever block it opens or ends: a test is an `if`, what
-- leads to a position an `else`, and what only leads on an `end`.
abbrev pub own_line : Line → Line
own_line (simple_line (declare p)) = end_line
own_line (simple_line (declare_array p)) = end_line
own_line (simple_line (assign p e)) = simple_line (assign p e)
own_line (simple_line (assign_item p i e)) = simple_line (assign_item p i e)
own_line (simple_line (send d t p)) = simple_line (send d t p)
own_line (simple_line (receive s t b)) = simple_line (receive s t b)
own_line (simple_line (probe s t)) = simple_line (probe s t)
own_line (simple_line (try_probe s t p)) = simple_line (try_probe s t p)
own_line (simple_line (print e)) = simple_line (print e)
own_line (simple_line (collect c)) = simple_line (collect c)
own_line (if_line e q) = if_line e q
own_line (else_line q) = else_line q
own_line end_line = end_line
own_line (while_line e q) = if_line e q
own_line (back_line q) = else_line q

-- the line that a compact form spells; none if the statement has to be looked up
abbrev pub compact_line : Compact → Option Line
compact_line compact.Other = None
compact_line compact.Next = Some end_line
compact_line (compact.Jump q) = Some (else_line q)
compact_line (compact.SetNumber p n) = Some (simple_line (assign p (number n)))
compact_line (compact.SetVariable p a) = Some (simple_line (assign p (variable a)))
compact_line (compact.AddNumber p a n) = Some (simple_line (assign p (operation Add (variable a) (number n))))
compact_line (compact.AddVariable p a b) = Some (simple_line (assign p (operation Add (variable a) (variable b))))
compact_line (compact.SubtractNumber p a n) = Some (simple_line (assign p (operation Subtract (variable a) (number n))))
compact_line (compact.SubtractVariable p a b) = Some (simple_line (assign p (operation Subtract (variable a) (variable b))))
compact_line (compact.MultiplyNumber p a n) = Some (simple_line (assign p (operation Multiply (variable a) (number n))))
compact_line (compact.MultiplyVariable p a b) = Some (simple_line (assign p (operation Multiply (variable a) (variable b))))
compact_line (compact.DivideNumber p a n) = Some (simple_line (assign p (operation Divide (variable a) (number n))))
compact_line (compact.DivideVariable p a b) = Some (simple_line (assign p (operation Divide (variable a) (variable b))))
compact_line (compact.RemainderNumber p a n) = Some (simple_line (assign p (operation Remainder (variable a) (number n))))
compact_line (compact.RemainderVariable p a b) = Some (simple_line (assign p (operation Remainder (variable a) (variable b))))
compact_line (compact.SetNested p n) = Some (simple_line (assign p (nested_of n)))
compact_line (compact.Item p a i) = Some (simple_line (assign p (item a (variable i))))
compact_line (compact.SetItemNumber a i n) = Some (simple_line (assign_item a (variable i) (number n)))
compact_line (compact.SetItemVariable a i b) = Some (simple_line (assign_item a (variable i) (variable b)))
compact_line (compact.EqualNumber a n q) = Some (if_line (operation Equal (variable a) (number n)) q)
compact_line (compact.EqualVariable a b q) = Some (if_line (operation Equal (variable a) (variable b)) q)
compact_line (compact.NotEqualNumber a n q) = Some (if_line (operation NotEqual (variable a) (number n)) q)
compact_line (compact.NotEqualVariable a b q) = Some (if_line (operation NotEqual (variable a) (variable b)) q)
compact_line (compact.LessNumber a n q) = Some (if_line (operation Less (variable a) (number n)) q)
compact_line (compact.LessVariable a b q) = Some (if_line (operation Less (variable a) (variable b)) q)
compact_line (compact.LessEqualNumber a n q) = Some (if_line (operation LessEqual (variable a) (number n)) q)
compact_line (compact.LessEqualVariable a b q) = Some (if_line (operation LessEqual (variable a) (variable b)) q)
compact_line (compact.GreaterNumber a n q) = Some (if_line (operation Greater (variable a) (number n)) q)
compact_line (compact.GreaterVariable a b q) = Some (if_line (operation Greater (variable a) (variable b)) q)
compact_line (compact.GreaterEqualNumber a n q) = Some (if_line (operation GreaterEqual (variable a) (number n)) q)
compact_line (compact.GreaterEqualVariable a b q) = Some (if_line (operation GreaterEqual (variable a) (variable b)) q)
compact_line (compact.TestNested n q) = Some (if_line (nested_of n) q)

-- it spells the first of these lines, if it spells any
abbrev pub IsCompact : Compact → List Line → Type 0
IsCompact c [] = compact_line c ≡ None
IsCompact c (l ∷ ls) = IfSome (compact_line c) (λ m. m ≡ own_line l)

-- the lines behind the first
abbrev pub behind : List Line → List Line
behind [] = []
behind (l ∷ ls) = ls

-- each spells the line at its place, if it spells any
abbrev pub AreCompact : List Compact → List Line → Type 0
AreCompact [] ls = Unit {0}
AreCompact (c ∷ cs) ls = IsCompact c ls × AreCompact cs (behind ls)

-- A program with the compact forms of its statements, and with one more behind them.
pub record HasCompacts (cs : List Compact) (p : ProgramValue) : Type 0 where
  pub stands : IsProgram p
  pub each : AreCompact cs p.statements
  pub count : length cs ≡ length p.statements + 1
