-- The statements of a rank program as C (ISO/IEC 9899:1999), written with functions that the fixed parts of the
-- text define. What these functions do isn't defined here.
use Rattle.std.specs.Prelude.{ℕ, zero, suc, List, [], ◌∷◌, ◌++◌, codes}
use Rattle.std.specs.Fmt.{decimal}
use Rattle.rank_text.specs.declared.grammar.token.Operator.{Operator}
use Rattle.rank_text.specs.declared.grammar.token.Operator.TheVariants.{Add, Subtract, Multiply, Divide, Remainder}
use Rattle.rank_text.specs.declared.grammar.token.Operator.TheVariants.{Equal, NotEqual, Less, LessEqual, Greater, GreaterEqual}
use Rattle.rank_text.specs.declared.grammar.token.Reduction.{Reduction}
use Rattle.rank_text.specs.declared.grammar.token.Reduction.TheVariants as reduces
use Rattle.rank_text.specs.Grammar.Tree.{Tree, number, variable, item, reading, negation, operation}
use Rattle.rank_text.specs.Grammar.Forms.{Pattern, any, value, Payload, lone, one}
use Rattle.rank_text.specs.Grammar.Forms.{Form, var_form, array_form, let_form, item_form, if_form, else_form, end_form, while_form}
use Rattle.rank_text.specs.Grammar.Forms.{send_form, recv_form, probe_form, try_probe_form, print_form, barrier_form, bcast_form, reduce_form}
use Rattle.rank_text.specs.Printer.Canonical.{depth_after, depth_of, program_text, reading_text}
use Rattle.c_program.specs.Names.{c_name}

-- a variable or an array of the rank, by its name
unfoldable pub own_text : List ℕ → List ℕ
own_text x = codes "my." ++ c_name x

-- all of it: where its items are, and how many they are
unfoldable pub all_text : List ℕ → List ℕ
all_text x = codes "ALL_OF(" ++ own_text x ++ codes ")"

-- the function of an operator, with its parenthesis
abbrev pub operator_call : Operator → List ℕ
operator_call Add = codes "sum_of("
operator_call Subtract = codes "difference_of("
operator_call Multiply = codes "product_of("
operator_call Divide = codes "quotient_of("
operator_call Remainder = codes "remainder_of("
operator_call Equal = codes "is_equal("
operator_call NotEqual = codes "is_unequal("
operator_call Less = codes "is_less("
operator_call LessEqual = codes "is_at_most("
operator_call Greater = codes "is_greater("
operator_call GreaterEqual = codes "is_at_least("

-- an expression: calls of functions, one for each node
abbrev pub c_expression : Tree → List ℕ
c_expression (number n) = codes "number(" ++ decimal n ++ codes ")"
c_expression (variable x) = codes "number(" ++ own_text x ++ codes ")"
c_expression (item x e) = codes "item_of(" ++ all_text x ++ codes ", " ++ c_expression e ++ codes ")"
c_expression (reading r) = codes "number(self." ++ reading_text r ++ codes ")"
c_expression (negation e) = codes "negative_of(" ++ c_expression e ++ codes ")"
c_expression (operation o a b) = operator_call o ++ c_expression a ++ codes ", " ++ c_expression b ++ codes ")"

-- two expressions, as arguments
unfoldable pub c_two : Tree → Tree → List ℕ
c_two e f = c_expression e ++ codes ", " ++ c_expression f

-- a source or a tag
abbrev pub c_pattern : Pattern → List ℕ
c_pattern any = codes "any()"
c_pattern (value e) = codes "exactly(" ++ c_expression e ++ codes ")"

-- a source and a tag, as arguments
unfoldable pub c_patterns : Pattern → Pattern → List ℕ
c_patterns s g = c_pattern s ++ codes ", " ++ c_pattern g

-- a send by what it gives: all items of a lone name, or a value
abbrev pub c_send : Tree → Tree → Payload → List ℕ
c_send d g (lone x) = codes "send_items(" ++ c_two d g ++ codes ", " ++ all_text x ++ codes ");"
c_send d g (one e) = codes "send_value(" ++ c_two d g ++ codes ", " ++ c_expression e ++ codes ");"

-- the variable that a call sets, its last argument
abbrev pub c_target : List ℕ → List ℕ
c_target x = codes ", &" ++ own_text x ++ codes ");"

-- the call of a reduction, up to how it combines two values
unfoldable pub reduction_call : Reduction → List ℕ
reduction_call reduces.Sum = codes "make_reduce(BY_SUM, "
reduction_call reduces.Max = codes "make_reduce(BY_MAX, "
reduction_call reduces.Min = codes "make_reduce(BY_MIN, "

-- a statement, or the braces of a block
abbrev pub c_statement : Form → List ℕ
c_statement (var_form x) = codes "declare(" ++ all_text x ++ codes ");"
c_statement (array_form x n) = codes "declare(" ++ all_text x ++ codes ");"
c_statement (let_form x e) = codes "set_variable(&" ++ own_text x ++ codes ", " ++ c_expression e ++ codes ");"
c_statement (item_form x i e) = codes "set_item(" ++ all_text x ++ codes ", " ++ c_two i e ++ codes ");"
c_statement (if_form e) = codes "if (is_nonzero(" ++ c_expression e ++ codes ")) {"
c_statement else_form = codes "} else {"
c_statement end_form = codes "}"
c_statement (while_form e) = codes "while (is_nonzero(" ++ c_expression e ++ codes ")) {"
c_statement (send_form d g p) = c_send d g p
c_statement (recv_form s g x) = codes "receive_items(" ++ c_patterns s g ++ codes ", " ++ all_text x ++ codes ");"
c_statement (probe_form s g) = codes "await_message(" ++ c_patterns s g ++ codes ");"
c_statement (try_probe_form s g x) = codes "find_message(" ++ c_patterns s g ++ c_target x
c_statement (print_form e) = codes "print_value(" ++ c_expression e ++ codes ");"
c_statement barrier_form = codes "make_barrier();"
c_statement (bcast_form r x) = codes "make_broadcast(" ++ c_expression r ++ codes ", " ++ all_text x ++ codes ");"
c_statement (reduce_form o r e x) = reduction_call o ++ c_two r e ++ c_target x

-- four spaces for each open block, and for the function itself
abbrev pub c_indentation : ℕ → List ℕ
c_indentation zero = codes "    "
c_indentation (suc depth) = codes "    " ++ c_indentation depth

-- the number and the canonical text of the line of these statements, as a comment
abbrev pub c_comment : ℕ → ℕ → List Form → List ℕ
c_comment depth n fs = c_indentation depth ++ codes "// " ++ decimal n ++ codes ": " ++ program_text fs

-- a statement below its line
abbrev pub c_line : ℕ → ℕ → Form → List ℕ
c_line depth n f = c_comment (depth_of depth f) n (f ∷ []) ++ c_indentation (depth_of depth f) ++ c_statement f ++ codes "\n"

-- statements with the numbers of their lines, where this many blocks are open
abbrev pub c_lines : ℕ → List ℕ → List Form → List ℕ
c_lines depth [] fs = []
c_lines depth (n ∷ ns) [] = []
c_lines depth (n ∷ ns) (f ∷ fs) = c_line depth n f ++ c_lines (depth_after depth f) ns fs

-- how the function that a rank runs begins
unfoldable pub function_begin : List ℕ
function_begin = codes "static void run_program(void)\n{\n"

-- the function that a rank runs
abbrev pub c_function : List ℕ → List Form → List ℕ
c_function ns fs = function_begin ++ c_lines 0 ns fs ++ codes "}\n"

-- what a statement declares, as a member of the rank's own struct
abbrev pub c_member : Form → List ℕ
c_member (var_form x) = codes "    long long " ++ c_name x ++ codes ";\n"
c_member (array_form x n) = codes "    long long " ++ c_name x ++ codes "[" ++ decimal n ++ codes "];\n"
c_member (let_form x e) = []
c_member (item_form x i e) = []
c_member (if_form e) = []
c_member else_form = []
c_member end_form = []
c_member (while_form e) = []
c_member (send_form d g p) = []
c_member (recv_form s g x) = []
c_member (probe_form s g) = []
c_member (try_probe_form s g x) = []
c_member (print_form e) = []
c_member barrier_form = []
c_member (bcast_form r x) = []
c_member (reduce_form o r e x) = []

-- what all statements declare
abbrev pub c_members : List Form → List ℕ
c_members [] = []
c_members (f ∷ fs) = c_member f ++ c_members fs

-- how the rank's struct begins
unfoldable pub struct_begin : List ℕ
struct_begin = codes "// The rank's own variables and arrays.\nstatic struct {\n"

-- the struct with these members; without members there is none, as C has no empty struct
abbrev pub c_struct : List ℕ → List ℕ
c_struct [] = []
c_struct (b ∷ bs) = struct_begin ++ (b ∷ bs) ++ codes "} my;\n\n"

-- the part of the text that differs from program to program
abbrev pub c_program : List ℕ → List Form → List ℕ
c_program ns fs = c_struct (c_members fs) ++ c_function ns fs
