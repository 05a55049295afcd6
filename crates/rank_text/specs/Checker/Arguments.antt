-- The arguments of a statement: the one walk of all that look at its names and its expressions (the language's own manual,
-- docs/LANGUAGE.md, "Statements"). A new form is added to `arguments_of`, and each of them then looks at its arguments.
use Rattle.std.specs.Prelude.{ℕ, List, [], ◌∷◌, Bool, true, false, ◌&&◌, ◌||◌}
use Rattle.rank_text.specs.Grammar.Tree.{Tree, number}
use Rattle.rank_text.specs.Grammar.Forms.{Pattern, any, value, Payload, lone, one}
use Rattle.rank_text.specs.Grammar.Forms.{Form, var_form, array_form, let_form, item_form, if_form, else_form, end_form, while_form}
use Rattle.rank_text.specs.Grammar.Forms.{send_form, recv_form, probe_form, try_probe_form, print_form}
use Rattle.rank_text.specs.Grammar.Forms.{barrier_form, bcast_form, reduce_form}

-- an argument: the name of a variable, of an array or of either, an expression, a source or tag, or a payload
pub data Argument : Type 0 where
  variable_name : (name : List ℕ) → Argument
  array_name : (name : List ℕ) → Argument
  either_name : (name : List ℕ) → Argument
  expression : (e : Tree) → Argument
  pattern : (c : Pattern) → Argument
  payload : (p : Payload) → Argument

-- the arguments of a statement in order: an array's length is the expression of its number, and a name that is declared is none
abbrev pub arguments_of : Form → List Argument
arguments_of (var_form x) = []
arguments_of (array_form x n) = expression (number n) ∷ []
arguments_of (let_form x e) = variable_name x ∷ expression e ∷ []
arguments_of (item_form x i e) = array_name x ∷ expression i ∷ expression e ∷ []
arguments_of (if_form e) = expression e ∷ []
arguments_of else_form = []
arguments_of end_form = []
arguments_of (while_form e) = expression e ∷ []
arguments_of (send_form d g p) = expression d ∷ expression g ∷ payload p ∷ []
arguments_of (recv_form c g x) = pattern c ∷ pattern g ∷ either_name x ∷ []
arguments_of (probe_form c g) = pattern c ∷ pattern g ∷ []
arguments_of (try_probe_form c g x) = pattern c ∷ pattern g ∷ variable_name x ∷ []
arguments_of (print_form e) = expression e ∷ []
arguments_of barrier_form = []
arguments_of (bcast_form e x) = expression e ∷ either_name x ∷ []
arguments_of (reduce_form r d e x) = expression d ∷ expression e ∷ variable_name x ∷ []

-- each argument passes the test, and what came before them does
abbrev pub each_after : Bool → (Argument → Bool) → List Argument → Bool
each_after before test [] = before
each_after before test (a ∷ rest) = each_after (before && test a) test rest

-- each argument passes the test
abbrev pub each_argument : (Argument → Bool) → List Argument → Bool
each_argument test arguments = each_after true test arguments

-- the source or tag is an expression that passes the test
abbrev pub pattern_has : (Tree → Bool) → Pattern → Bool
pattern_has test any = false
pattern_has test (value e) = test e

-- the payload is an expression that passes the test
abbrev pub payload_has : (Tree → Bool) → Payload → Bool
payload_has test (lone x) = false
payload_has test (one e) = test e

-- an expression among the arguments passes the test, or something before them does
abbrev pub some_after : Bool → (Tree → Bool) → List Argument → Bool
some_after before test [] = before
some_after before test (variable_name x ∷ rest) = some_after before test rest
some_after before test (array_name x ∷ rest) = some_after before test rest
some_after before test (either_name x ∷ rest) = some_after before test rest
some_after before test (expression e ∷ rest) = some_after (before || test e) test rest
some_after before test (pattern c ∷ rest) = some_after (before || pattern_has test c) test rest
some_after before test (payload p ∷ rest) = some_after (before || payload_has test p) test rest

-- an expression among the arguments passes the test
abbrev pub some_expression : (Tree → Bool) → List Argument → Bool
some_expression test arguments = some_after false test arguments
