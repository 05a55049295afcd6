-- The canonical text of statements: what a program prints as (the language's own manual, docs/LANGUAGE.md).
use Rattle.std.specs.Prelude.{ℕ, zero, suc, ◌+◌, ◌-◌, List, [], ◌∷◌, ◌++◌, codes, Bool, true, false, if◌then◌else◌}
use Rattle.std.specs.Fmt.{decimal}
use Rattle.rank_text.specs.declared.grammar.token.Operator.{Operator}
use Rattle.rank_text.specs.declared.grammar.token.Operator.TheVariants.{Add, Subtract, Multiply, Divide, Remainder}
use Rattle.rank_text.specs.declared.grammar.token.Operator.TheVariants.{Equal, NotEqual, Less, LessEqual, Greater, GreaterEqual}
use Rattle.rank_text.specs.declared.grammar.token.Reading.{Reading}
use Rattle.rank_text.specs.declared.grammar.token.Reading.TheVariants as reads
use Rattle.rank_text.specs.Grammar.Tree.{Tree, number, variable, item, reading, negation, operation}
use Rattle.rank_text.specs.declared.grammar.token.Reduction.{Reduction}
use Rattle.rank_text.specs.declared.grammar.token.Reduction.TheVariants as reduces
use Rattle.rank_text.specs.Grammar.Forms.{Pattern, any, value, Payload, lone, one}
use Rattle.rank_text.specs.Grammar.Forms.{Form, var_form, array_form, let_form, item_form, if_form, else_form, end_form, while_form}
use Rattle.rank_text.specs.Grammar.Forms.{send_form, recv_form, probe_form, try_probe_form, print_form, barrier_form, bcast_form, reduce_form}

-- the sign of an operator, with a space on both sides
abbrev pub operator_text : Operator → List ℕ
operator_text Add = codes " + "
operator_text Subtract = codes " - "
operator_text Multiply = codes " * "
operator_text Divide = codes " / "
operator_text Remainder = codes " % "
operator_text Equal = codes " == "
operator_text NotEqual = codes " != "
operator_text Less = codes " < "
operator_text LessEqual = codes " <= "
operator_text Greater = codes " > "
operator_text GreaterEqual = codes " >= "

-- the word for what a rank can only read
abbrev pub reading_text : Reading → List ℕ
reading_text reads.Rank = codes "rank"
reading_text reads.Size = codes "size"
reading_text reads.Source = codes "source"
reading_text reads.Tag = codes "gottag"
reading_text reads.Count = codes "count"

-- the expression is an operation
abbrev pub is_operation : Tree → Bool
is_operation (number n) = false
is_operation (variable x) = false
is_operation (item x e) = false
is_operation (reading r) = false
is_operation (negation e) = true
is_operation (operation o a b) = true

-- an operand with this text, in parentheses where it is itself an operation
abbrev pub operand_text : Tree → List ℕ → List ℕ
operand_text e text = if is_operation e then codes "(" ++ text ++ codes ")" else text

-- an expression
abbrev pub expression_text : Tree → List ℕ
expression_text (number n) = decimal n
expression_text (variable x) = x
expression_text (item x e) = x ++ codes "[" ++ expression_text e ++ codes "]"
expression_text (reading r) = reading_text r
expression_text (negation e) = codes "-" ++ operand_text e (expression_text e)
expression_text (operation o a b) = operand_text a (expression_text a) ++ operator_text o ++ operand_text b (expression_text b)

-- a source or a tag
abbrev pub pattern_text : Pattern → List ℕ
pattern_text any = codes "any"
pattern_text (value e) = expression_text e

-- what a send gives
abbrev pub payload_text : Payload → List ℕ
payload_text (lone x) = x
payload_text (one e) = expression_text e

-- the word for how a reduction combines two values
abbrev pub reduction_text : Reduction → List ℕ
reduction_text reduces.Sum = codes "sum"
reduction_text reduces.Max = codes "max"
reduction_text reduces.Min = codes "min"

-- a statement, with a space after its word and after each comma
abbrev pub form_text : Form → List ℕ
form_text (var_form x) = codes "var " ++ x
form_text (array_form x n) = codes "array " ++ x ++ codes "[" ++ decimal n ++ codes "]"
form_text (let_form x e) = codes "let " ++ x ++ codes " = " ++ expression_text e
form_text (item_form x i e) = codes "let " ++ x ++ codes "[" ++ expression_text i ++ codes "] = " ++ expression_text e
form_text (if_form e) = codes "if " ++ expression_text e
form_text else_form = codes "else"
form_text end_form = codes "end"
form_text (while_form e) = codes "while " ++ expression_text e
form_text (send_form d g p) = codes "send " ++ expression_text d ++ codes ", " ++ expression_text g ++ codes ", " ++ payload_text p
form_text (recv_form s g x) = codes "recv " ++ pattern_text s ++ codes ", " ++ pattern_text g ++ codes ", " ++ x
form_text (probe_form s g) = codes "probe " ++ pattern_text s ++ codes ", " ++ pattern_text g
form_text (try_probe_form s g x) = codes "iprobe " ++ pattern_text s ++ codes ", " ++ pattern_text g ++ codes ", " ++ x
form_text (print_form e) = codes "print " ++ expression_text e
form_text barrier_form = codes "barrier"
form_text (bcast_form r x) = codes "bcast " ++ expression_text r ++ codes ", " ++ x
form_text (reduce_form o r e x) =
    codes "reduce " ++ reduction_text o ++ codes ", " ++ expression_text r ++ codes ", " ++ expression_text e ++ codes ", " ++ x

-- what a statement does to the blocks that are open
pub data Nesting : Type 0 where
  stays : Nesting
  opens : Nesting
  turns : Nesting
  closes : Nesting

-- a statement that tests opens a block, `else` goes on with its other part, and `end` closes it
abbrev pub nesting_of : Form → Nesting
nesting_of (var_form x) = stays
nesting_of (array_form x n) = stays
nesting_of (let_form x e) = stays
nesting_of (item_form x i e) = stays
nesting_of (if_form e) = opens
nesting_of else_form = turns
nesting_of end_form = closes
nesting_of (while_form e) = opens
nesting_of (send_form d g p) = stays
nesting_of (recv_form s g x) = stays
nesting_of (probe_form s g) = stays
nesting_of (try_probe_form s g x) = stays
nesting_of (print_form e) = stays
nesting_of barrier_form = stays
nesting_of (bcast_form r x) = stays
nesting_of (reduce_form o r e x) = stays

-- how far a line is indented where this many blocks are open: `else` and `end` stand as the line that opened their block
abbrev pub indented_by : ℕ → Nesting → ℕ
indented_by depth stays = depth
indented_by depth opens = depth
indented_by depth turns = depth - 1
indented_by depth closes = depth - 1

-- how many blocks are open after a line
abbrev pub left_open : ℕ → Nesting → ℕ
left_open depth stays = depth
left_open depth opens = depth + 1
left_open depth turns = depth
left_open depth closes = depth - 1

-- how far a statement is indented where this many blocks are open
abbrev pub depth_of : ℕ → Form → ℕ
depth_of depth f = indented_by depth (nesting_of f)

-- how many blocks are open after a statement
abbrev pub depth_after : ℕ → Form → ℕ
depth_after depth f = left_open depth (nesting_of f)

-- two spaces for each open block
abbrev pub indentation : ℕ → List ℕ
indentation zero = []
indentation (suc depth) = codes "  " ++ indentation depth

-- the line of a statement, without its LF
abbrev pub line_text : ℕ → Form → List ℕ
line_text depth f = indentation (depth_of depth f) ++ form_text f

-- the lines of statements where this many blocks are open, each with its LF
abbrev pub text_from : ℕ → List Form → List ℕ
text_from depth [] = []
text_from depth (f ∷ fs) = line_text depth f ++ codes "\n" ++ text_from (depth_after depth f) fs

-- the canonical text of statements
abbrev pub program_text : List Form → List ℕ
program_text fs = text_from 0 fs

-- a payload that is a variable by itself is a lone name
abbrev pub IsCanonicalPayload : Payload → Type 0
IsCanonicalPayload (lone x) = Unit {0}
IsCanonicalPayload (one (number n)) = Unit {0}
IsCanonicalPayload (one (variable x)) = ⊥
IsCanonicalPayload (one (item x e)) = Unit {0}
IsCanonicalPayload (one (reading r)) = Unit {0}
IsCanonicalPayload (one (negation e)) = Unit {0}
IsCanonicalPayload (one (operation o a b)) = Unit {0}

-- the statement is one that its text gives back: only a payload can be written in two ways
abbrev pub IsCanonical : Form → Type 0
IsCanonical (var_form x) = Unit {0}
IsCanonical (array_form x n) = Unit {0}
IsCanonical (let_form x e) = Unit {0}
IsCanonical (item_form x i e) = Unit {0}
IsCanonical (if_form e) = Unit {0}
IsCanonical else_form = Unit {0}
IsCanonical end_form = Unit {0}
IsCanonical (while_form e) = Unit {0}
IsCanonical (send_form d g p) = IsCanonicalPayload p
IsCanonical (recv_form s g x) = Unit {0}
IsCanonical (probe_form s g) = Unit {0}
IsCanonical (try_probe_form s g x) = Unit {0}
IsCanonical (print_form e) = Unit {0}
IsCanonical barrier_form = Unit {0}
IsCanonical (bcast_form r x) = Unit {0}
IsCanonical (reduce_form o r e x) = Unit {0}

-- so is each of the statements
abbrev pub AllCanonical : List Form → Type 0
AllCanonical [] = Unit {0}
AllCanonical (f ∷ fs) = IsCanonical f × AllCanonical fs

-- the lone name that stands for a variable by itself
abbrev pub canonical_payload : Payload → Payload
canonical_payload (lone x) = lone x
canonical_payload (one (number n)) = one (number n)
canonical_payload (one (variable x)) = lone x
canonical_payload (one (item x e)) = one (item x e)
canonical_payload (one (reading r)) = one (reading r)
canonical_payload (one (negation e)) = one (negation e)
canonical_payload (one (operation o a b)) = one (operation o a b)

-- the statement that its text gives back
abbrev pub canonical : Form → Form
canonical (var_form x) = var_form x
canonical (array_form x n) = array_form x n
canonical (let_form x e) = let_form x e
canonical (item_form x i e) = item_form x i e
canonical (if_form e) = if_form e
canonical else_form = else_form
canonical end_form = end_form
canonical (while_form e) = while_form e
canonical (send_form d g p) = send_form d g (canonical_payload p)
canonical (recv_form s g x) = recv_form s g x
canonical (probe_form s g) = probe_form s g
canonical (try_probe_form s g x) = try_probe_form s g x
canonical (print_form e) = print_form e
canonical barrier_form = barrier_form
canonical (bcast_form r x) = bcast_form r x
canonical (reduce_form o r e x) = reduce_form o r e x

-- so of each of the statements
abbrev pub all_canonical : List Form → List Form
all_canonical [] = []
all_canonical (f ∷ fs) = canonical f ∷ all_canonical fs
