-- What the lines so far have declared and opened, and which statements may follow them (the language's own
-- manual, docs/LANGUAGE.md, "Lines, words and names", "Blocks" and "Limits").
use Rattle.std.specs.Prelude.{◌≡◌, ℕ, ◌+◌, ◌-◌, ◌^◌, ◌≤◌, max, List, [], ◌∷◌, ◌++◌}
use Rattle.std.specs.Prelude.{Bool, true, false, ◌&&◌, ◌||◌, not, nat_le, nat_lt, length, map}
use Rattle.std.specs.Str.{bytes_eq}
use Rattle.rank_text.specs.declared.grammar.token.Token.{Token}
use Rattle.rank_text.specs.declared.grammar.token.Token.TheVariants as t
use Rattle.rank_text.specs.Grammar.Lexes.{IsName}
use Rattle.rank_text.specs.Grammar.Tree.{Tree, number, variable, item, reading, negation, operation}
use Rattle.rank_text.specs.Grammar.Forms.{Pattern, any, value, Payload, lone, one}
use Rattle.rank_text.specs.Grammar.Forms.{Form, var_form, array_form, let_form, item_form, if_form, else_form, end_form, while_form}
use Rattle.rank_text.specs.Grammar.Forms.{send_form, recv_form, probe_form, try_probe_form, print_form}
use Rattle.rank_text.specs.Grammar.Forms.{barrier_form, bcast_form, reduce_form}
use Rattle.limits.specs.Limits.{most_lines, most_variables, most_arrays, most_items, most_blocks, most_name_bytes}
use Rattle.limits.specs.Limits.{most_nodes, most_parentheses}
use Rattle.rank_text.specs.Checker.Arguments.{Argument, variable_name, array_name, either_name, expression, pattern, payload}
use Rattle.rank_text.specs.Checker.Arguments.{arguments_of, each_argument, pattern_has, payload_has, some_expression}

-- a block that is open: the first part of an `if`, the part after its `else`, or a `while`
pub data Opened : Type 0 where
  in_if : Opened
  in_else : Opened
  in_while : Opened

-- names in order of declaration, arrays with their lengths, and the open blocks, the innermost first
pub record Scope : Type 0 where
  pub variables : List (List ℕ)
  pub arrays : List (List ℕ × ℕ)
  pub blocks : List Opened

-- nothing is declared, and no block is open
abbrev pub nothing_yet : Scope
nothing_yet = record { variables = []; arrays = []; blocks = [] }

-- the name is one of these
abbrev pub is_name_in : List (List ℕ) → List ℕ → Bool
is_name_in [] x = false
is_name_in (y ∷ ys) x = bytes_eq y x || is_name_in ys x

-- the name is a variable
abbrev pub is_variable : Scope → List ℕ → Bool
is_variable s x = is_name_in s.variables x

-- the name is an array
abbrev pub is_array : Scope → List ℕ → Bool
is_array s x = is_name_in (map (λ a. a.0) s.arrays) x

-- the name is a variable or an array
abbrev pub is_declared : Scope → List ℕ → Bool
is_declared s x = is_variable s x || is_array s x

-- each name in an expression is declared in the sort that is used there
abbrev pub all_declared : Scope → Tree → Bool
all_declared s (number n) = true
all_declared s (variable x) = is_variable s x
all_declared s (item x e) = is_array s x && all_declared s e
all_declared s (reading r) = true
all_declared s (negation e) = all_declared s e
all_declared s (operation o a b) = all_declared s a && all_declared s b

-- each name in a source or tag is declared
abbrev pub pattern_declared : Scope → Pattern → Bool
pattern_declared s any = true
pattern_declared s (value e) = all_declared s e

-- a lone name is a variable or an array, and each name in another payload is declared in its sort
abbrev pub payload_declared : Scope → Payload → Bool
payload_declared s (lone x) = is_declared s x
payload_declared s (one e) = all_declared s e

-- each name in an argument is declared in the sort that is used there
abbrev pub argument_declared : Scope → Argument → Bool
argument_declared s (variable_name x) = is_variable s x
argument_declared s (array_name x) = is_array s x
argument_declared s (either_name x) = is_declared s x
argument_declared s (expression e) = all_declared s e
argument_declared s (pattern c) = pattern_declared s c
argument_declared s (payload p) = payload_declared s p

-- each name in a statement is declared in the sort that is used there
abbrev pub declared_in : Scope → Form → Bool
declared_in s f = each_argument (argument_declared s) (arguments_of f)

-- the name that the statement declares is already declared
abbrev pub is_twice : Scope → Form → Bool
is_twice s (var_form x) = is_declared s x
is_twice s (array_form x n) = is_declared s x
is_twice s (let_form x e) = false
is_twice s (item_form x i e) = false
is_twice s (if_form e) = false
is_twice s else_form = false
is_twice s end_form = false
is_twice s (while_form e) = false
is_twice s (send_form d g p) = false
is_twice s (recv_form c g x) = false
is_twice s (probe_form c g) = false
is_twice s (try_probe_form c g x) = false
is_twice s (print_form e) = false
is_twice s barrier_form = false
is_twice s (bcast_form e x) = false
is_twice s (reduce_form r d e x) = false

-- no block is open
abbrev pub is_empty : List Opened → Bool
is_empty [] = true
is_empty (_ ∷ _) = false

-- the innermost block is an `if` without its `else`
abbrev pub is_open_if : List Opened → Bool
is_open_if [] = false
is_open_if (in_if ∷ _) = true
is_open_if (in_else ∷ _) = false
is_open_if (in_while ∷ _) = false

-- a declaration stands in a block, an `else` has no `if` or a second one, or an `end` has no block
abbrev pub is_stray : Scope → Form → Bool
is_stray s (var_form x) = not (is_empty s.blocks)
is_stray s (array_form x n) = not (is_empty s.blocks)
is_stray s else_form = not (is_open_if s.blocks)
is_stray s end_form = is_empty s.blocks
is_stray s (let_form x e) = false
is_stray s (item_form x i e) = false
is_stray s (if_form e) = false
is_stray s (while_form e) = false
is_stray s (send_form d g p) = false
is_stray s (recv_form c g x) = false
is_stray s (probe_form c g) = false
is_stray s (try_probe_form c g x) = false
is_stray s (print_form e) = false
is_stray s barrier_form = false
is_stray s (bcast_form e x) = false
is_stray s (reduce_form r d e x) = false

-- each number, name, read-only word, indexing and operation is one node
abbrev pub nodes : Tree → ℕ
nodes (number n) = 1
nodes (variable x) = 1
nodes (item x e) = 1 + nodes e
nodes (reading r) = 1
nodes (negation e) = 1 + nodes e
nodes (operation o a b) = 1 + nodes a + nodes b

-- the expression has too many nodes
abbrev pub is_large : Tree → Bool
is_large e = nat_lt most_nodes (nodes e)

-- the source or tag has too many
abbrev pub pattern_is_large : Pattern → Bool
pattern_is_large c = pattern_has is_large c

-- the payload is an expression that has too many
abbrev pub payload_is_large : Payload → Bool
payload_is_large p = payload_has is_large p

-- an expression of the statement has too many nodes
abbrev pub has_large : Form → Bool
has_large f = some_expression is_large (arguments_of f)

-- the most parentheses open at once, where n are open already; brackets don't count, and parentheses stay open inside them
abbrev pub deepest : ℕ → List Token → ℕ
deepest n [] = n
deepest n (t.OpenParenthesis ∷ ts) = deepest (n + 1) ts
deepest n (t.CloseParenthesis ∷ ts) = max n (deepest (n - 1) ts)
deepest n (t.Keyword k ∷ ts) = deepest n ts
deepest n (t.Reduction r ∷ ts) = deepest n ts
deepest n (t.Name x ∷ ts) = deepest n ts
deepest n (t.Number m ∷ ts) = deepest n ts
deepest n (t.Reading r ∷ ts) = deepest n ts
deepest n (t.Operator o ∷ ts) = deepest n ts
deepest n (t.OpenBracket ∷ ts) = deepest n ts
deepest n (t.CloseBracket ∷ ts) = deepest n ts
deepest n (t.Comma ∷ ts) = deepest n ts
deepest n (t.Assign ∷ ts) = deepest n ts
deepest n (t.Any ∷ ts) = deepest n ts

-- an array has one item or more, and no more than it may have
abbrev pub is_array_length : ℕ → Bool
is_array_length n = nat_le 1 n && nat_le n most_items

-- the name is too long, or the table of variables or of arrays is full, or the array is too short or too long, or as many blocks are
-- open as may be
abbrev pub is_past_table : Scope → Form → Bool
is_past_table s (var_form x) = nat_le most_variables (length s.variables) || nat_lt most_name_bytes (length x)
is_past_table s (array_form x n) =
    nat_le most_arrays (length s.arrays) || nat_lt most_name_bytes (length x) || not (is_array_length n)
is_past_table s (if_form e) = nat_le most_blocks (length s.blocks)
is_past_table s (while_form e) = nat_le most_blocks (length s.blocks)
is_past_table s (let_form x e) = false
is_past_table s (item_form x i e) = false
is_past_table s else_form = false
is_past_table s end_form = false
is_past_table s (send_form d g p) = false
is_past_table s (recv_form c g x) = false
is_past_table s (probe_form c g) = false
is_past_table s (try_probe_form c g x) = false
is_past_table s (print_form e) = false
is_past_table s barrier_form = false
is_past_table s (bcast_form e x) = false
is_past_table s (reduce_form r d e x) = false

-- a limit is passed
abbrev pub is_over : Scope → List Token → Form → Bool
is_over s ts f = is_past_table s f || has_large f || nat_lt most_parentheses (deepest 0 ts)

-- a number of the expression is above 9223372036854775807
abbrev pub is_great : Tree → Bool
is_great (number n) = nat_le (2 ^ 63) n
is_great (variable x) = false
is_great (item x e) = is_great e
is_great (reading r) = false
is_great (negation e) = is_great e
is_great (operation o a b) = is_great a || is_great b

-- a number of the source or tag is above it
abbrev pub pattern_is_great : Pattern → Bool
pattern_is_great c = pattern_has is_great c

-- a number of the payload is above it
abbrev pub payload_is_great : Payload → Bool
payload_is_great p = payload_has is_great p

-- a number of the statement is above 9223372036854775807
abbrev pub has_great_number : Form → Bool
has_great_number f = some_expression is_great (arguments_of f)

-- the innermost block goes on after its `else`
abbrev pub other_branch : List Opened → List Opened
other_branch [] = []
other_branch (b ∷ bs) = in_else ∷ bs

-- the innermost block is closed
abbrev pub outer : List Opened → List Opened
outer [] = []
outer (b ∷ bs) = bs

-- what a statement leaves
abbrev pub after : Scope → Form → Scope
after s (var_form x) = record s { variables = s.variables ++ x ∷ [] }
after s (array_form x n) = record s { arrays = s.arrays ++ (x, n) ∷ [] }
after s (if_form e) = record s { blocks = in_if ∷ s.blocks }
after s (while_form e) = record s { blocks = in_while ∷ s.blocks }
after s else_form = record s { blocks = other_branch s.blocks }
after s end_form = record s { blocks = outer s.blocks }
after s (let_form x e) = s
after s (item_form x i e) = s
after s (send_form d g p) = s
after s (recv_form c g x) = s
after s (probe_form c g) = s
after s (try_probe_form c g x) = s
after s (print_form e) = s
after s barrier_form = s
after s (bcast_form e x) = s
after s (reduce_form r d e x) = s

-- what statements leave, one after another
abbrev pub after_all : Scope → List Form → Scope
after_all s [] = s
after_all s (f ∷ fs) = after_all (after s f) fs

-- what the statement declares has a name that isn't reserved
abbrev pub IsNamed : Form → Type 0
IsNamed (var_form x) = IsName x
IsNamed (array_form x n) = IsName x
IsNamed (let_form x e) = Unit {0}
IsNamed (item_form x i e) = Unit {0}
IsNamed (if_form e) = Unit {0}
IsNamed else_form = Unit {0}
IsNamed end_form = Unit {0}
IsNamed (while_form e) = Unit {0}
IsNamed (send_form d g p) = Unit {0}
IsNamed (recv_form c g x) = Unit {0}
IsNamed (probe_form c g) = Unit {0}
IsNamed (try_probe_form c g x) = Unit {0}
IsNamed (print_form e) = Unit {0}
IsNamed barrier_form = Unit {0}
IsNamed (bcast_form e x) = Unit {0}
IsNamed (reduce_form r d e x) = Unit {0}

-- A statement may stand after lines that leave the scope s.
pub record MayStand (s : Scope) (f : Form) : Type 0 where
  pub declared : declared_in s f ≡ true
  pub once : is_twice s f ≡ false
  pub placed : is_stray s f ≡ false
  pub within : is_past_table s f ≡ false
  pub named : IsNamed f
  pub sized : has_large f ≡ false
  pub fitting : has_great_number f ≡ false

-- statements that may stand one after another, after lines that leave the scope s
abbrev pub AllMayStand : Scope → List Form → Type 0
AllMayStand s [] = Unit {0}
AllMayStand s (f ∷ fs) = MayStand s f × AllMayStand (after s f) fs

-- Statements are a whole program's: each may stand where it does, each block is closed, and there are no more than lines.
pub record IsWhole (fs : List Form) : Type 0 where
  pub standing : AllMayStand nothing_yet fs
  pub closed : (after_all nothing_yet fs).blocks ≡ []
  pub few : length fs ≤ most_lines
