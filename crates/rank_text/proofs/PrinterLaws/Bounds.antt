-- What is printed of a statement within its limits is within those of a line: its parentheses nest less than its
-- expressions have nodes, and each node takes at most 20 bytes.
use Rattle.std.proofs.Common.{◌≡◌, ℕ, zero, suc, ◌+◌, ◌-◌, ◌*◌, ◌^◌, ◌<◌, ◌≤◌, Bool, true, false, List, [], ◌∷◌, ◌++◌, length, codes}
use Rattle.std.proofs.Common.{refl, sym, subst, append_assoc, append-nil, length-append, arith}
use Rattle.std.specs.Prelude.{if◌then◌else◌}
use Rattle.std.specs.Fmt.{decimal}
use Rattle.limits.specs.Limits.{most_line_bytes, most_blocks, most_parentheses}
use Rattle.std.proofs.lemmas.Fmt.{length-decimal-le}
use Rattle.rank_text.specs.declared.grammar.token.Operator.{Operator}
use Rattle.rank_text.specs.declared.grammar.token.Operator.TheVariants.{Add, Subtract, Multiply, Divide, Remainder}
use Rattle.rank_text.specs.declared.grammar.token.Operator.TheVariants.{Equal, NotEqual, Less, LessEqual, Greater, GreaterEqual}
use Rattle.rank_text.specs.declared.grammar.token.Reading.{Reading}
use Rattle.rank_text.specs.declared.grammar.token.Reading.TheVariants as reads
use Rattle.rank_text.specs.declared.grammar.token.Reduction.{Reduction}
use Rattle.rank_text.specs.declared.grammar.token.Reduction.TheVariants as reduces
use Rattle.rank_text.specs.declared.grammar.token.Token.{Token}
use Rattle.rank_text.specs.declared.grammar.token.Token.TheVariants as t
use Rattle.rank_text.specs.Grammar.Tree.{Tree, number, variable, item, reading, negation, operation}
use Rattle.rank_text.specs.Grammar.Forms.{Pattern, any, value, Payload, lone, one}
use Rattle.rank_text.specs.Grammar.Forms.{Form, var_form, array_form, let_form, item_form, if_form, else_form, end_form, while_form}
use Rattle.rank_text.specs.Grammar.Forms.{send_form, recv_form, probe_form, try_probe_form, print_form, barrier_form, bcast_form, reduce_form}
use Rattle.rank_text.specs.Checker.Scope.{nodes, deepest}
use Rattle.rank_text.specs.Printer.Canonical.{operator_text, reading_text, is_operation, operand_text, expression_text}
use Rattle.rank_text.specs.Printer.Canonical.{pattern_text, payload_text, reduction_text, form_text, indentation}
use Rattle.rank_text.proofs.PrinterLaws.PrintedTokens.{operand_tokens, expression_tokens, pattern_tokens, payload_tokens, form_tokens}
use Rattle.rank_text.proofs.PrinterLaws.Fitting.{IsPlain, IsFit, PatternFits, PayloadFits, FormFits}

-- in front of tokens that nest at most k deep the tokens don't nest deeper, where k is so much more than what is open
abbrev Shallow : ℕ → List Token → Type 0
Shallow size ts = (k n : ℕ) (us : List Token) → n + size ≤ k → deepest n us ≤ k → deepest n (ts ++ us) ≤ k

-- a text that is larger isn't less shallow
wider : (a b : ℕ) (ts : List Token) → a ≤ b → Shallow a ts → Shallow b ts
wider a b ts h s = λ k n us p q. s k n us (omega (arith, h, p)) q

-- two lists of tokens, one behind the other
shallow_then : (a : ℕ) (xs ys : List Token) → Shallow a xs → Shallow a ys → Shallow a (xs ++ ys)
shallow_then a xs ys p q = λ k n us h d. subst (λ z. deepest n z ≤ k) (sym (append_assoc xs ys us)) (p k n (ys ++ us) h (q k n us h d))

-- a token more in front that is no parenthesis
operator_shallow : (o : Operator) (a : ℕ) (ts : List Token) → Shallow a ts → Shallow a (t.Operator o ∷ ts)
operator_shallow o a ts s = λ k n us h d. s k n us h d

-- tokens in parentheses where a test says so
wrapped_shallow : (z : Bool) (a : ℕ) (ts : List Token) → Shallow a ts
    → Shallow (suc a) (if z then t.OpenParenthesis ∷ (ts ++ t.CloseParenthesis ∷ []) else ts)
wrapped_shallow false a ts s = λ k n us h d. s k n us (omega (arith, h)) d
wrapped_shallow true a ts s = λ k n us h d.
    let e : (n + 1) - 1 ≡ n = omega arith in
    let inner : deepest (n + 1) (t.CloseParenthesis ∷ us) ≤ k =
    (let f : deepest ((n + 1) - 1) us ≤ k = subst (λ m. deepest m us ≤ k) (sym e) d in omega (arith, h, f)) in
    subst (λ z. deepest (n + 1) z ≤ k) (sym (append_assoc ts (t.CloseParenthesis ∷ []) us)) (s k (n + 1) (t.CloseParenthesis ∷ us) (omega (arith, h)) inner)

-- an expression nests less deep than it has nodes
expression_shallow : (e : Tree) → Shallow (nodes e) (expression_tokens e)
expression_shallow (number n) = λ k n us h d. d
expression_shallow (variable x) = λ k n us h d. d
expression_shallow (item x e) = λ k n us h d.
    subst (λ z. deepest n z ≤ k) (sym (append_assoc (expression_tokens e) (t.CloseBracket ∷ []) us))
    (expression_shallow e k n (t.CloseBracket ∷ us) (omega (arith, h)) d)
expression_shallow (reading r) = λ k n us h d. d
expression_shallow (negation e) = λ k n us h d.
    wrapped_shallow (is_operation e) (nodes e) (expression_tokens e) (expression_shallow e) k n us (omega (arith, h)) d
expression_shallow (operation o a b) =
    let left =
    wider (suc (nodes a)) (nodes (operation o a b)) (operand_tokens a (expression_tokens a)) (omega arith)
    (wrapped_shallow (is_operation a) (nodes a) (expression_tokens a) (expression_shallow a)) in
    let right =
    wider (suc (nodes b)) (nodes (operation o a b)) (operand_tokens b (expression_tokens b)) (omega arith)
    (wrapped_shallow (is_operation b) (nodes b) (expression_tokens b) (expression_shallow b)) in
    shallow_then (nodes (operation o a b)) (operand_tokens a (expression_tokens a)) (t.Operator o ∷ operand_tokens b (expression_tokens b)) left
    (operator_shallow o (nodes (operation o a b)) (operand_tokens b (expression_tokens b)) right)

-- an expression within its limit
fit_shallow : (e : Tree) → IsFit e → Shallow most_parentheses (expression_tokens e)
fit_shallow e h = wider (nodes e) most_parentheses (expression_tokens e) h.1 (expression_shallow e)

-- a source or a tag
pattern_shallow : (c : Pattern) → PatternFits c → Shallow most_parentheses (pattern_tokens c)
pattern_shallow any h = λ k n us p d. d
pattern_shallow (value e) h = fit_shallow e h

-- what a send gives
payload_shallow : (p : Payload) → PayloadFits p → Shallow most_parentheses (payload_tokens p)
payload_shallow (lone x) h = λ k n us p d. d
payload_shallow (one e) h = fit_shallow e h

-- nothing is open in the end
none_open : deepest 0 [] ≤ most_parentheses
none_open = omega arith

-- tokens by themselves
alone : (ts : List Token) → Shallow most_parentheses ts → deepest 0 ts ≤ most_parentheses
alone ts s = subst (λ z. deepest 0 z ≤ most_parentheses) (append-nil ts) (s most_parentheses 0 [] (omega arith) none_open)

-- two arguments with a comma between them
two_shallow : (xs ys : List Token) → Shallow most_parentheses xs → Shallow most_parentheses ys → deepest 0 (xs ++ t.Comma ∷ ys) ≤ most_parentheses
two_shallow xs ys p q = p most_parentheses 0 (t.Comma ∷ ys) (omega arith) (alone ys q)

-- three arguments with commas between them
three_shallow : (xs ys zs : List Token) → Shallow most_parentheses xs → Shallow most_parentheses ys → Shallow most_parentheses zs
    → deepest 0 (xs ++ t.Comma ∷ (ys ++ t.Comma ∷ zs)) ≤ most_parentheses
three_shallow xs ys zs p q r =
    p most_parentheses 0 (t.Comma ∷ (ys ++ t.Comma ∷ zs)) (omega arith) (q most_parentheses 0 (t.Comma ∷ zs) (omega arith) (alone zs r))

-- the tokens of a statement nest no deeper than parentheses may
pub form_shallow : (f : Form) → FormFits f → deepest 0 (form_tokens f) ≤ most_parentheses
form_shallow (var_form x) h = none_open
form_shallow (array_form x n) h = none_open
form_shallow (let_form x e) h = alone (expression_tokens e) (fit_shallow e h.1)
form_shallow (item_form x i e) h =
    fit_shallow i h.1 most_parentheses 0 (t.CloseBracket ∷ t.Assign ∷ expression_tokens e) (omega arith) (alone (expression_tokens e) (fit_shallow e h.2))
form_shallow (if_form e) h = alone (expression_tokens e) (fit_shallow e h)
form_shallow else_form h = none_open
form_shallow end_form h = none_open
form_shallow (while_form e) h = alone (expression_tokens e) (fit_shallow e h)
form_shallow (send_form d g p) h =
    three_shallow (expression_tokens d) (expression_tokens g) (payload_tokens p) (fit_shallow d h.0) (fit_shallow g h.1) (payload_shallow p h.2)
form_shallow (recv_form s g x) h =
    three_shallow (pattern_tokens s) (pattern_tokens g) (t.Name x ∷ []) (pattern_shallow s h.0) (pattern_shallow g h.1) (λ k n us p d. d)
form_shallow (probe_form s g) h = two_shallow (pattern_tokens s) (pattern_tokens g) (pattern_shallow s h.0) (pattern_shallow g h.1)
form_shallow (try_probe_form s g x) h =
    three_shallow (pattern_tokens s) (pattern_tokens g) (t.Name x ∷ []) (pattern_shallow s h.0) (pattern_shallow g h.1) (λ k n us p d. d)
form_shallow (print_form e) h = alone (expression_tokens e) (fit_shallow e h)
form_shallow barrier_form h = none_open
form_shallow (bcast_form r x) h = two_shallow (expression_tokens r) (t.Name x ∷ []) (fit_shallow r h.0) (λ k n us p d. d)
form_shallow (reduce_form o r e x) h =
    three_shallow (expression_tokens r) (expression_tokens e) (t.Name x ∷ []) (fit_shallow r h.0) (fit_shallow e h.1) (λ k n us p d. d)

-- an operator takes at most 4 bytes
operator_length : (o : Operator) → length (operator_text o) ≤ 4
operator_length Add = omega arith
operator_length Subtract = omega arith
operator_length Multiply = omega arith
operator_length Divide = omega arith
operator_length Remainder = omega arith
operator_length Equal = omega arith
operator_length NotEqual = omega arith
operator_length Less = omega arith
operator_length LessEqual = omega arith
operator_length Greater = omega arith
operator_length GreaterEqual = omega arith

-- a word to read at most 6
reading_length : (r : Reading) → length (reading_text r) ≤ 6
reading_length reads.Rank = omega arith
reading_length reads.Size = omega arith
reading_length reads.Source = omega arith
reading_length reads.Tag = omega arith
reading_length reads.Count = omega arith

-- a word for a reduction takes 3
reduction_length : (o : Reduction) → length (reduction_text o) ≤ 3
reduction_length reduces.Sum = omega arith
reduction_length reduces.Max = omega arith
reduction_length reduces.Min = omega arith

-- parentheses two more
wrapped_length : (z : Bool) (text : List ℕ) → length (if z then codes "(" ++ text ++ codes ")" else text) ≤ length text + 2
wrapped_length false text = omega arith
wrapped_length true text = omega (arith, length-append (codes "(" ++ text) (codes ")"))

-- a number at most 19
number_length : (n : ℕ) → n < 2 ^ 63 → length (decimal n) ≤ 19
number_length n h = length-decimal-le 19 n (omega arith) (omega (arith, h)) (omega (arith, h))

-- an index in brackets
indexed_length : (x i : List ℕ) → length (x ++ codes "[" ++ i ++ codes "]") ≡ length x + length i + 2
indexed_length x i =
    omega (arith, length-append (x ++ codes "[" ++ i) (codes "]"), length-append (x ++ codes "[") i, length-append x (codes "["))

-- two texts with a third between them
between_length : (a m b : List ℕ) → length (a ++ m ++ b) ≡ length a + length m + length b
between_length a m b = omega (arith, length-append (a ++ m) b, length-append a m)

-- an expression at most 20 for each node
expression_length : (e : Tree) → IsPlain e → length (expression_text e) ≤ 20 * nodes e
expression_length (number n) h = omega (arith, number_length n h)
expression_length (variable x) h = omega (arith, h.1)
expression_length (item x e) h = omega (arith, indexed_length x (expression_text e), h.0.1, expression_length e h.1)
expression_length (reading r) h = omega (arith, reading_length r)
expression_length (negation e) h =
    omega (arith, wrapped_length (is_operation e) (expression_text e), expression_length e h)
expression_length (operation o a b) h =
    omega (
      arith,
      between_length (operand_text a (expression_text a)) (operator_text o) (operand_text b (expression_text b)),
      operator_length o,
      wrapped_length (is_operation a) (expression_text a),
      wrapped_length (is_operation b) (expression_text b),
      expression_length a h.0,
      expression_length b h.1,
    )

-- so at most 1280 in all
fit_length : (e : Tree) → IsFit e → length (expression_text e) ≤ 1280
fit_length e h = omega (arith, expression_length e h.0, h.1)

-- a source or a tag takes no more than an expression may
pattern_length : (c : Pattern) → PatternFits c → length (pattern_text c) ≤ 1280
pattern_length any h = omega arith
pattern_length (value e) h = fit_length e h

-- so does what a send gives
payload_length : (p : Payload) → PayloadFits p → length (payload_text p) ≤ 1280
payload_length (lone x) h = omega (arith, h.1)
payload_length (one e) h = fit_length e h

-- three arguments behind a word
three_length : (word a b c : List ℕ) → length (word ++ a ++ codes ", " ++ b ++ codes ", " ++ c) ≡ length word + length a + length b + length c + 4
three_length word a b c =
    omega (arith, between_length (word ++ a ++ codes ", " ++ b) (codes ", ") c, between_length (word ++ a) (codes ", ") b, length-append word a)

-- a statement at most 4000
form_length : (f : Form) → FormFits f → length (form_text f) ≤ 4000
form_length (var_form x) h = omega (arith, h.1)
form_length (array_form x n) h = omega (arith, indexed_length (codes "array " ++ x) (decimal n), h.0.1, number_length n h.1)
form_length (let_form x e) h =
    omega (arith, between_length (codes "let " ++ x) (codes " = ") (expression_text e), h.0.1, fit_length e h.1)
form_length (item_form x i e) h =
    omega (
      arith,
      between_length (codes "let " ++ x ++ codes "[" ++ expression_text i) (codes "] = ") (expression_text e),
      between_length (codes "let " ++ x) (codes "[") (expression_text i),
      h.0.1,
      fit_length i h.1,
      fit_length e h.2,
    )
form_length (if_form e) h = omega (arith, fit_length e h)
form_length else_form h = omega arith
form_length end_form h = omega arith
form_length (while_form e) h = omega (arith, fit_length e h)
form_length (send_form d g p) h =
    omega (
      arith,
      three_length (codes "send ") (expression_text d) (expression_text g) (payload_text p),
      fit_length d h.0,
      fit_length g h.1,
      payload_length p h.2,
    )
form_length (recv_form s g x) h =
    omega (arith, three_length (codes "recv ") (pattern_text s) (pattern_text g) x, pattern_length s h.0, pattern_length g h.1, h.2.1)
form_length (probe_form s g) h =
    omega (arith, between_length (codes "probe " ++ pattern_text s) (codes ", ") (pattern_text g), pattern_length s h.0, pattern_length g h.1)
form_length (try_probe_form s g x) h =
    omega (arith, three_length (codes "iprobe ") (pattern_text s) (pattern_text g) x, pattern_length s h.0, pattern_length g h.1, h.2.1)
form_length (print_form e) h = omega (arith, fit_length e h)
form_length barrier_form h = omega arith
form_length (bcast_form r x) h = omega (arith, between_length (codes "bcast " ++ expression_text r) (codes ", ") x, fit_length r h.0, h.1.1)
form_length (reduce_form o r e x) h =
    omega (
      arith,
      three_length (codes "reduce " ++ reduction_text o ++ codes ", ") (expression_text r) (expression_text e) x,
      between_length (codes "reduce ") (reduction_text o) (codes ", "),
      reduction_length o,
      fit_length r h.0,
      fit_length e h.1,
      h.2.1,
    )

-- each open block takes two
indentation_length : (depth : ℕ) → length (indentation depth) ≡ 2 * depth
indentation_length zero = refl
indentation_length (suc depth) = omega (arith, indentation_length depth)

-- a line no more than it may have, where no more blocks are open than may be
pub line_length : (depth : ℕ) (f : Form) → depth ≤ most_blocks → FormFits f → length (indentation depth ++ form_text f) ≤ most_line_bytes
line_length depth f h k = omega (arith, length-append (indentation depth) (form_text f), indentation_length depth, form_length f k, h)
