-- Statements whose names are declared and whose numbers fit, by the tables of the whole text.
use Rattle.std.specs.Prelude.{◌≡◌, List, [], ◌∷◌, Bool, true, false}
use Rattle.rank_text.specs.Grammar.Forms.{Form, var_form, array_form, let_form, item_form, if_form, else_form, end_form, while_form}
use Rattle.rank_text.specs.Grammar.Forms.{send_form, recv_form, probe_form, try_probe_form, print_form, barrier_form, bcast_form, reduce_form}
use Rattle.rank_text.specs.Checker.Scope.{Scope, declared_in, has_great_number, is_variable, is_array}

-- what the statement declares is in the table
abbrev pub declares_in : Scope → Form → Bool
declares_in s (var_form x) = is_variable s x
declares_in s (array_form x n) = is_array s x
declares_in s (let_form x e) = true
declares_in s (item_form x i e) = true
declares_in s (if_form e) = true
declares_in s else_form = true
declares_in s end_form = true
declares_in s (while_form e) = true
declares_in s (send_form d t p) = true
declares_in s (recv_form c t x) = true
declares_in s (probe_form c t) = true
declares_in s (try_probe_form c t x) = true
declares_in s (print_form e) = true
declares_in s barrier_form = true
declares_in s (bcast_form r x) = true
declares_in s (reduce_form o r e x) = true

-- A statement that becomes one of a program.
pub record IsResolvable (s : Scope) (f : Form) : Type 0 where
  pub declared : declared_in s f ≡ true
  pub declares : declares_in s f ≡ true
  pub fitting : has_great_number f ≡ false

-- each statement of a list is
abbrev pub AllResolvable : Scope → List Form → Type 0
AllResolvable s [] = Unit {0}
AllResolvable s (f ∷ fs) = IsResolvable s f × AllResolvable s fs
