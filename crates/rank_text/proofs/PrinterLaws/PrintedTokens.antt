-- The tokens of what is printed, and what they spell.
--
-- An operand that is an operation stands in parentheses, so it is an atom, and so are all others: two atoms with an
-- operator between them spell its operation, however strongly the operator binds.
use Rattle.std.proofs.Common.{◌≡◌, List, [], ◌∷◌, ◌++◌, refl}
use Rattle.std.specs.Prelude.{if◌then◌else◌}
use Rattle.rank_text.specs.declared.grammar.token.Keyword.TheVariants as k
use Rattle.rank_text.specs.declared.grammar.token.Operator.{Operator}
use Rattle.rank_text.specs.declared.grammar.token.Strength.{Strength}
use Rattle.rank_text.specs.declared.grammar.token.Strength.TheVariants.{Compares, Adds, Multiplies}
use Rattle.rank_text.specs.declared.grammar.token.Token.{Token}
use Rattle.rank_text.specs.declared.grammar.token.Token.TheVariants as t
use Rattle.rank_text.specs.Grammar.Tree.{Tree, number, variable, item, reading, negation, operation}
use Rattle.rank_text.specs.Grammar.Grammar.{strength, minus, whole, atom}
use Rattle.rank_text.specs.Grammar.Grammar.{Spells, is_number, is_variable, is_reading, is_item, in_parentheses, is_atom, negated, is_unary}
use Rattle.rank_text.specs.Grammar.Grammar.{multiplied, is_product, added, is_sum, compared}
use Rattle.rank_text.specs.Grammar.Forms.{Pattern, any, value, Payload, lone, one}
use Rattle.rank_text.specs.Grammar.Forms.{Form, var_form, array_form, let_form, item_form, if_form, else_form, end_form, while_form}
use Rattle.rank_text.specs.Grammar.Forms.{send_form, recv_form, probe_form, try_probe_form, print_form, barrier_form, bcast_form, reduce_form}
use Rattle.rank_text.specs.Grammar.Forms.{IsPattern, is_any, is_value, IsNoName, IsPayload, is_lone, is_one}
use Rattle.rank_text.specs.Grammar.Forms.{IsForm, is_var, is_array, is_let, is_let_item, is_if, is_else, is_end, is_while}
use Rattle.rank_text.specs.Grammar.Forms.{is_send, is_recv, is_probe, is_try_probe, is_print, is_barrier, is_bcast, is_reduce}
use Rattle.rank_text.specs.Printer.Canonical.{is_operation, IsCanonicalPayload, IsCanonical}

-- an operand with these tokens, in parentheses where it is itself an operation
abbrev pub operand_tokens : Tree → List Token → List Token
operand_tokens e ts = if is_operation e then t.OpenParenthesis ∷ (ts ++ t.CloseParenthesis ∷ []) else ts

-- the tokens of an expression
abbrev pub expression_tokens : Tree → List Token
expression_tokens (number n) = t.Number n ∷ []
expression_tokens (variable x) = t.Name x ∷ []
expression_tokens (item x e) = t.Name x ∷ t.OpenBracket ∷ (expression_tokens e ++ t.CloseBracket ∷ [])
expression_tokens (reading r) = t.Reading r ∷ []
expression_tokens (negation e) = minus ∷ operand_tokens e (expression_tokens e)
expression_tokens (operation o a b) = operand_tokens a (expression_tokens a) ++ t.Operator o ∷ operand_tokens b (expression_tokens b)

-- the tokens of a source or a tag
abbrev pub pattern_tokens : Pattern → List Token
pattern_tokens any = t.Any ∷ []
pattern_tokens (value e) = expression_tokens e

-- the tokens of what a send gives
abbrev pub payload_tokens : Payload → List Token
payload_tokens (lone x) = t.Name x ∷ []
payload_tokens (one e) = expression_tokens e

-- the tokens of a statement
abbrev pub form_tokens : Form → List Token
form_tokens (var_form x) = t.Keyword k.Var ∷ t.Name x ∷ []
form_tokens (array_form x n) = t.Keyword k.Array ∷ t.Name x ∷ t.OpenBracket ∷ t.Number n ∷ t.CloseBracket ∷ []
form_tokens (let_form x e) = t.Keyword k.Let ∷ t.Name x ∷ t.Assign ∷ expression_tokens e
form_tokens (item_form x i e) =
    t.Keyword k.Let ∷ t.Name x ∷ t.OpenBracket ∷ (expression_tokens i ++ t.CloseBracket ∷ t.Assign ∷ expression_tokens e)
form_tokens (if_form e) = t.Keyword k.If ∷ expression_tokens e
form_tokens else_form = t.Keyword k.Else ∷ []
form_tokens end_form = t.Keyword k.End ∷ []
form_tokens (while_form e) = t.Keyword k.While ∷ expression_tokens e
form_tokens (send_form d g p) =
    t.Keyword k.Send ∷ (expression_tokens d ++ t.Comma ∷ (expression_tokens g ++ t.Comma ∷ payload_tokens p))
form_tokens (recv_form s g x) = t.Keyword k.Recv ∷ (pattern_tokens s ++ t.Comma ∷ (pattern_tokens g ++ t.Comma ∷ (t.Name x ∷ [])))
form_tokens (probe_form s g) = t.Keyword k.Probe ∷ (pattern_tokens s ++ t.Comma ∷ pattern_tokens g)
form_tokens (try_probe_form s g x) =
    t.Keyword k.Iprobe ∷ (pattern_tokens s ++ t.Comma ∷ (pattern_tokens g ++ t.Comma ∷ (t.Name x ∷ [])))
form_tokens (print_form e) = t.Keyword k.Print ∷ expression_tokens e
form_tokens barrier_form = t.Keyword k.Barrier ∷ []
form_tokens (bcast_form r x) = t.Keyword k.Bcast ∷ (expression_tokens r ++ t.Comma ∷ (t.Name x ∷ []))
form_tokens (reduce_form o r e x) =
    t.Keyword k.Reduce ∷ t.Reduction o ∷ t.Comma ∷ (expression_tokens r ++ t.Comma ∷ (expression_tokens e ++ t.Comma ∷ (t.Name x ∷ [])))

-- an atom is a whole expression
of_atom : {ts : List Token} {e : Tree} → Spells atom ts e → Spells whole ts e
of_atom d = is_sum (is_product (is_unary (is_atom d)))

-- two atoms with an operator between them
by_strength : (r : Strength) (o : Operator) → strength o ≡ r → (xs ys : List Token) (a b : Tree) → Spells atom xs a → Spells atom ys b
    → Spells whole (xs ++ t.Operator o ∷ ys) (operation o a b)
by_strength Multiplies o q xs ys a b da db = is_sum (is_product (multiplied q (is_unary (is_atom da)) (is_atom db)))
by_strength Adds o q xs ys a b da db = is_sum (added q (is_product (is_unary (is_atom da))) (is_unary (is_atom db)))
by_strength Compares o q xs ys a b da db = compared q (is_product (is_unary (is_atom da))) (is_product (is_unary (is_atom db)))

mutual
  -- what is printed spells the expression
  pub expression_spells : (e : Tree) → Spells whole (expression_tokens e) e
  expression_spells (number n) = of_atom is_number
  expression_spells (variable x) = of_atom is_variable
  expression_spells (item x e) = of_atom (is_item (expression_spells e))
  expression_spells (reading r) = of_atom is_reading
  expression_spells (negation e) = is_sum (is_product (is_unary (negated (is_atom (operand_spells e (expression_spells e))))))
  expression_spells (operation o a b) =
      by_strength (strength o) o refl _ _ a b (operand_spells a (expression_spells a)) (operand_spells b (expression_spells b))

  -- and as an operand it is an atom
  operand_spells : (e : Tree) → Spells whole (expression_tokens e) e → Spells atom (operand_tokens e (expression_tokens e)) e
  operand_spells (number n) d = is_number
  operand_spells (variable x) d = is_variable
  operand_spells (item x e) d = is_item (expression_spells e)
  operand_spells (reading r) d = is_reading
  operand_spells (negation e) d = in_parentheses d
  operand_spells (operation o a b) d = in_parentheses d

-- a source or a tag
pattern_spells : (c : Pattern) → IsPattern (pattern_tokens c) c
pattern_spells any = is_any
pattern_spells (value e) = is_value (expression_spells e)

-- an operation is more than a name
operation_no_name : (xs ys : List Token) (o : Operator) → IsNoName (xs ++ t.Operator o ∷ ys)
operation_no_name [] ys o = tt
operation_no_name (t.Name x ∷ []) ys o = tt
operation_no_name (t.Name x ∷ (z ∷ zs)) ys o = tt
operation_no_name (_ ∷ zs) ys o = tt

-- so is each expression but a variable
one_no_name : (e : Tree) → IsCanonicalPayload (one e) → IsNoName (expression_tokens e)
one_no_name (number n) c = tt
one_no_name (variable x) c = absurd c
one_no_name (item x e) c = tt
one_no_name (reading r) c = tt
one_no_name (negation e) c = tt
one_no_name (operation o a b) c = operation_no_name (operand_tokens a (expression_tokens a)) (operand_tokens b (expression_tokens b)) o

-- what a send gives
payload_spells : (p : Payload) → IsCanonicalPayload p → IsPayload (payload_tokens p) p
payload_spells (lone x) c = is_lone
payload_spells (one e) c = is_one (one_no_name e c) (expression_spells e)

-- what is printed of a statement has its form
pub form_spells : (f : Form) → IsCanonical f → IsForm (form_tokens f) f
form_spells (var_form x) c = is_var
form_spells (array_form x n) c = is_array
form_spells (let_form x e) c = is_let (expression_spells e)
form_spells (item_form x i e) c = is_let_item (expression_spells i) (expression_spells e)
form_spells (if_form e) c = is_if (expression_spells e)
form_spells else_form c = is_else
form_spells end_form c = is_end
form_spells (while_form e) c = is_while (expression_spells e)
form_spells (send_form d g p) c = is_send (expression_spells d) (expression_spells g) (payload_spells p c)
form_spells (recv_form s g x) c = is_recv (pattern_spells s) (pattern_spells g)
form_spells (probe_form s g) c = is_probe (pattern_spells s) (pattern_spells g)
form_spells (try_probe_form s g x) c = is_try_probe (pattern_spells s) (pattern_spells g)
form_spells (print_form e) c = is_print (expression_spells e)
form_spells barrier_form c = is_barrier
form_spells (bcast_form r x) c = is_bcast (expression_spells r)
form_spells (reduce_form o r e x) c = is_reduce (expression_spells r) (expression_spells e)
