-- The forms of a line: which tokens make which statement (the language's own manual, docs/LANGUAGE.md).
use Rattle.std.specs.Prelude.{ℕ, List, [], ◌∷◌, ◌++◌, Option, Some, None, Ok, Err, length, nat_eq, if◌then◌else◌}
use Rattle.rank_text.specs.declared.grammar.token.Keyword.{Keyword}
use Rattle.rank_text.specs.declared.grammar.token.Keyword.TheVariants as k
use Rattle.rank_text.specs.declared.grammar.token.Reduction.{Reduction}
use Rattle.rank_text.specs.declared.grammar.token.Token.{Token}
use Rattle.rank_text.specs.declared.grammar.token.Token.TheVariants as t
use Rattle.rank_text.specs.Grammar.Tree.{Tree}
use Rattle.rank_text.specs.Grammar.Grammar.{Spells, whole}
use Rattle.rank_text.specs.Grammar.Reader.{Read, ◌>>=◌, bare, expression_at, whole_expression}
use Rattle.rank_text.specs.declared.grammar.misfit.Expected.{Expected}
use Rattle.rank_text.specs.declared.grammar.misfit.Expected.TheVariants as w

-- the source or the tag of a receive or a probe: any, or the value of an expression
pub data Pattern : Type 0 where
  any : Pattern
  value : (e : Tree) → Pattern

-- what a send gives: a lone name, which is an array or a variable, or the value of another expression
pub data Payload : Type 0 where
  lone : (name : List ℕ) → Payload
  one : (e : Tree) → Payload

-- the statement of a line, whatever stands on the lines around it
pub data Form : Type 0 where
  var_form : (name : List ℕ) → Form
  array_form : (name : List ℕ) (length : ℕ) → Form
  let_form : (name : List ℕ) (e : Tree) → Form
  item_form : (name : List ℕ) (index e : Tree) → Form
  if_form : (e : Tree) → Form
  else_form : Form
  end_form : Form
  while_form : (e : Tree) → Form
  send_form : (dest tag : Tree) (p : Payload) → Form
  recv_form : (source tag : Pattern) (buffer : List ℕ) → Form
  probe_form : (source tag : Pattern) → Form
  try_probe_form : (source tag : Pattern) (flag : List ℕ) → Form
  print_form : (e : Tree) → Form
  barrier_form : Form
  bcast_form : (root : Tree) (buffer : List ℕ) → Form
  reduce_form : (reduction : Reduction) (root e : Tree) (x : List ℕ) → Form

-- a pattern is written `any`, or as an expression
pub data IsPattern : List Token → Pattern → Type 0 where
  is_any : IsPattern (t.Any ∷ []) any
  is_value : {ts : List Token} {e : Tree} → Spells whole ts e → IsPattern ts (value e)

-- the tokens are not one name by itself
abbrev pub IsNoName : List Token → Type 0
IsNoName (t.Name x ∷ []) = ⊥
IsNoName _ = Unit {0}

-- a payload is written as a name by itself, or as an expression that is more than a name
pub data IsPayload : List Token → Payload → Type 0 where
  is_lone : {x : List ℕ} → IsPayload (t.Name x ∷ []) (lone x)
  is_one : {ts : List Token} {e : Tree} → IsNoName ts → Spells whole ts e → IsPayload ts (one e)

-- the tokens of a line have the form: a statement word and its arguments, with a comma between two arguments, brackets around an
-- array's length and an item's index, and `=` before the value of a `let`, and nothing more
pub data IsForm : List Token → Form → Type 0 where
  is_var : {x : List ℕ} → IsForm (t.Keyword k.Var ∷ t.Name x ∷ []) (var_form x)
  is_array : {x : List ℕ} {n : ℕ}
      → IsForm (t.Keyword k.Array ∷ t.Name x ∷ t.OpenBracket ∷ t.Number n ∷ t.CloseBracket ∷ []) (array_form x n)
  is_let : {x : List ℕ} {ts : List Token} {e : Tree}
      → Spells whole ts e → IsForm (t.Keyword k.Let ∷ t.Name x ∷ t.Assign ∷ ts) (let_form x e)
  is_let_item : {x : List ℕ} {is ts : List Token} {i e : Tree}
      → Spells whole is i → Spells whole ts e
      → IsForm (t.Keyword k.Let ∷ t.Name x ∷ t.OpenBracket ∷ (is ++ t.CloseBracket ∷ t.Assign ∷ ts)) (item_form x i e)
  is_if : {ts : List Token} {e : Tree} → Spells whole ts e → IsForm (t.Keyword k.If ∷ ts) (if_form e)
  is_else : IsForm (t.Keyword k.Else ∷ []) else_form
  is_end : IsForm (t.Keyword k.End ∷ []) end_form
  is_while : {ts : List Token} {e : Tree} → Spells whole ts e → IsForm (t.Keyword k.While ∷ ts) (while_form e)
  is_send : {ds gs ps : List Token} {d g : Tree} {p : Payload}
      → Spells whole ds d → Spells whole gs g → IsPayload ps p
      → IsForm (t.Keyword k.Send ∷ (ds ++ t.Comma ∷ (gs ++ t.Comma ∷ ps))) (send_form d g p)
  is_recv : {ss gs : List Token} {s g : Pattern} {x : List ℕ}
      → IsPattern ss s → IsPattern gs g
      → IsForm (t.Keyword k.Recv ∷ (ss ++ t.Comma ∷ (gs ++ t.Comma ∷ (t.Name x ∷ [])))) (recv_form s g x)
  is_probe : {ss gs : List Token} {s g : Pattern}
      → IsPattern ss s → IsPattern gs g
      → IsForm (t.Keyword k.Probe ∷ (ss ++ t.Comma ∷ gs)) (probe_form s g)
  is_try_probe : {ss gs : List Token} {s g : Pattern} {x : List ℕ}
      → IsPattern ss s → IsPattern gs g
      → IsForm (t.Keyword k.Iprobe ∷ (ss ++ t.Comma ∷ (gs ++ t.Comma ∷ (t.Name x ∷ [])))) (try_probe_form s g x)
  is_print : {ts : List Token} {e : Tree} → Spells whole ts e → IsForm (t.Keyword k.Print ∷ ts) (print_form e)
  is_barrier : IsForm (t.Keyword k.Barrier ∷ []) barrier_form
  is_bcast : {rs : List Token} {root : Tree} {x : List ℕ}
      → Spells whole rs root
      → IsForm (t.Keyword k.Bcast ∷ (rs ++ t.Comma ∷ (t.Name x ∷ []))) (bcast_form root x)
  is_reduce : {r : Reduction} {rs es : List Token} {root e : Tree} {x : List ℕ}
      → Spells whole rs root → Spells whole es e
      → IsForm (t.Keyword k.Reduce ∷ t.Reduction r ∷ t.Comma ∷ (rs ++ t.Comma ∷ (es ++ t.Comma ∷ (t.Name x ∷ []))))
      (reduce_form r root e x)

-- The same, read from the left.

-- the tokens after the comma in front
abbrev pub comma : List Token → Read (List Token)
comma (t.Comma ∷ ts) = Ok ts
comma ts = Err (ts, w.Comma)

-- the name that all of the tokens are
abbrev pub lone_name : List Token → Read (List ℕ)
lone_name (t.Name x ∷ ts) = bare x ts
lone_name ts = Err (ts, w.Name)

-- what is expected of a pattern: where no token of it fits, `any` too
abbrev pub or_any : List Token → List Token × Expected → List Token × Expected
or_any ts m = (m.0, if nat_eq (length m.0) (length ts) then w.AnyOrOperand else m.1)

-- the pattern that the value in front is, and the tokens after it
abbrev pub value_at : List Token → Read (Tree × List Token) → Read (Pattern × List Token)
value_at ts (Ok e) = Ok (value e.0, e.1)
value_at ts (Err m) = Err (or_any ts m)

-- the pattern in front, and the tokens after it
abbrev pub pattern_at : List Token → Read (Pattern × List Token)
pattern_at (t.Any ∷ ts) = Ok (any, ts)
pattern_at ts = value_at ts (expression_at ts)

-- the source and the tag in front, each with the comma behind it, and the tokens after them
unfoldable pub envelope_at : List Token → Read (Pattern × Pattern × List Token)
envelope_at ts = do
  s ← pattern_at ts
  us ← comma s.1
  g ← pattern_at us
  vs ← comma g.1
  Ok (s.0, g.0, vs)

-- the pattern that all of the tokens are
abbrev pub whole_pattern : List Token → Read Pattern
whole_pattern ts = do
  c ← pattern_at ts
  bare c.0 c.1

-- the payload that all of the tokens are
abbrev pub payload_of : List Token → Read Payload
payload_of (t.Name x ∷ []) = Ok (lone x)
payload_of ts = do
  e ← whole_expression ts
  Ok (one e)

-- the form of `var` with these arguments
unfoldable pub var_of : List Token → Read Form
var_of ts = do
  x ← lone_name ts
  Ok (var_form x)

-- the form of `array` with these arguments: a name, and in brackets a number
unfoldable pub array_of : List Token → Read Form
array_of (t.Name x ∷ (t.OpenBracket ∷ (t.Number n ∷ (t.CloseBracket ∷ ts)))) = bare (array_form x n) ts
array_of (t.Name x ∷ (t.OpenBracket ∷ (t.Number n ∷ ts))) = Err (ts, w.CloseBracket)
array_of (t.Name x ∷ (t.OpenBracket ∷ ts)) = Err (ts, w.Number)
array_of (t.Name x ∷ ts) = Err (ts, w.Length)
array_of ts = Err (ts, w.Name)

-- the tokens after a closing bracket and `=` in front
abbrev pub bracket_assign : List Token → Read (List Token)
bracket_assign (t.CloseBracket ∷ (t.Assign ∷ ts)) = Ok ts
bracket_assign (t.CloseBracket ∷ ts) = Err (ts, w.Assign)
bracket_assign ts = Err (ts, w.CloseBracket)

-- the form of `let` with an item of this name, from its index on
unfoldable pub item_of : List ℕ → List Token → Read Form
item_of x ts = do
  i ← expression_at ts
  us ← bracket_assign i.1
  e ← whole_expression us
  Ok (item_form x i.0 e)

-- the form of `let` with these arguments: a name or an item, `=` and a value
unfoldable pub let_of : List Token → Read Form
let_of (t.Name x ∷ (t.Assign ∷ ts)) = do
  e ← whole_expression ts
  Ok (let_form x e)
let_of (t.Name x ∷ (t.OpenBracket ∷ ts)) = item_of x ts
let_of (t.Name x ∷ ts) = Err (ts, w.AssignOrIndex)
let_of ts = Err (ts, w.Name)

-- the form of `if` with these arguments
unfoldable pub if_of : List Token → Read Form
if_of ts = do
  e ← whole_expression ts
  Ok (if_form e)

-- the form of `while` with these arguments
unfoldable pub while_of : List Token → Read Form
while_of ts = do
  e ← whole_expression ts
  Ok (while_form e)

-- the form of `send` with this destination, from its tag on
abbrev pub sent_of : Tree → List Token → Read Form
sent_of d ts = do
  g ← expression_at ts
  us ← comma g.1
  p ← payload_of us
  Ok (send_form d g.0 p)

-- the form of `send` with these arguments
unfoldable pub send_of : List Token → Read Form
send_of ts = do
  d ← expression_at ts
  us ← comma d.1
  sent_of d.0 us

-- the form of `recv` with these arguments
unfoldable pub recv_of : List Token → Read Form
recv_of ts = do
  e ← envelope_at ts
  x ← lone_name e.2
  Ok (recv_form e.0 e.1 x)

-- the form of `probe` with these arguments
unfoldable pub probe_of : List Token → Read Form
probe_of ts = do
  s ← pattern_at ts
  us ← comma s.1
  g ← whole_pattern us
  Ok (probe_form s.0 g)

-- the form of `iprobe` with these arguments
unfoldable pub try_probe_of : List Token → Read Form
try_probe_of ts = do
  e ← envelope_at ts
  x ← lone_name e.2
  Ok (try_probe_form e.0 e.1 x)

-- the form of `print` with these arguments
unfoldable pub print_of : List Token → Read Form
print_of ts = do
  e ← whole_expression ts
  Ok (print_form e)

-- the form of `bcast` with these arguments
unfoldable pub bcast_of : List Token → Read Form
bcast_of ts = do
  d ← expression_at ts
  us ← comma d.1
  x ← lone_name us
  Ok (bcast_form d.0 x)

-- the form of `reduce` with this reduction, from its root on
unfoldable pub reduced_of : Reduction → List Token → Read Form
reduced_of r ts = do
  d ← expression_at ts
  us ← comma d.1
  e ← expression_at us
  vs ← comma e.1
  x ← lone_name vs
  Ok (reduce_form r d.0 e.0 x)

-- the form of `reduce` with these arguments: a reduction, a root, a value and a name
unfoldable pub reduce_of : List Token → Read Form
reduce_of (t.Reduction r ∷ (t.Comma ∷ ts)) = reduced_of r ts
reduce_of (t.Reduction r ∷ ts) = Err (ts, w.Comma)
reduce_of ts = Err (ts, w.Reduction)

-- the form of a statement word with these arguments
abbrev pub form_with : Keyword → List Token → Read Form
form_with k.Var ts = var_of ts
form_with k.Array ts = array_of ts
form_with k.Let ts = let_of ts
form_with k.If ts = if_of ts
form_with k.Else ts = bare else_form ts
form_with k.End ts = bare end_form ts
form_with k.While ts = while_of ts
form_with k.Send ts = send_of ts
form_with k.Recv ts = recv_of ts
form_with k.Print ts = print_of ts
form_with k.Probe ts = probe_of ts
form_with k.Iprobe ts = try_probe_of ts
form_with k.Barrier ts = bare barrier_form ts
form_with k.Bcast ts = bcast_of ts
form_with k.Reduce ts = reduce_of ts

-- the form of a line's tokens, or where they don't go on as one
abbrev pub read_form : List Token → Read Form
read_form (t.Keyword word ∷ ts) = form_with word ts
read_form ts = Err (ts, w.Statement)

-- what was read, if it was
abbrev pub ok_of : {A : Type 0} → Read A → Option A
ok_of (Ok a) = Some a
ok_of (Err m) = None

-- the form of a line's tokens
abbrev pub form_of : List Token → Option Form
form_of ts = ok_of (read_form ts)
