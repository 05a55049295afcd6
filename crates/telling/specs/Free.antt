-- Which name a telling program may add to a program's own.
use Rattle.std.specs.Prelude.{◌≡◌, ◌≤◌, ℕ, Bool, true, false, ◌||◌, List, [], ◌∷◌, ◌++◌, codes}
use Rattle.std.specs.Str.{bytes_eq}
use Rattle.rank_text.specs.Grammar.Forms.{Form, var_form, array_form, let_form, item_form, if_form, else_form, end_form, while_form}
use Rattle.rank_text.specs.Grammar.Forms.{send_form, recv_form, probe_form, try_probe_form, print_form, barrier_form, bcast_form, reduce_form}
use Rattle.telling.specs.declared.added.Added.{Added}

-- the statement declares this name
abbrev pub declares_name : List ℕ → Form → Bool
declares_name y (var_form x) = bytes_eq x y
declares_name y (array_form x n) = bytes_eq x y
declares_name y (let_form x e) = false
declares_name y (item_form x i e) = false
declares_name y (if_form e) = false
declares_name y else_form = false
declares_name y end_form = false
declares_name y (while_form e) = false
declares_name y (send_form d g p) = false
declares_name y (recv_form s g x) = false
declares_name y (probe_form s g) = false
declares_name y (try_probe_form s g x) = false
declares_name y (print_form e) = false
declares_name y barrier_form = false
declares_name y (bcast_form r x) = false
declares_name y (reduce_form o r e x) = false

-- one of the statements does
abbrev pub is_declared : List ℕ → List Form → Bool
is_declared y [] = false
is_declared y (f ∷ fs) = declares_name y f || is_declared y fs

-- a name with a number of two digits, which are bytes
abbrev pub numbered : List ℕ → ℕ → ℕ → List ℕ
numbered x tens ones = x ++ tens ∷ ones ∷ []

-- a byte is a digit
abbrev pub IsDigit : ℕ → Type 0
IsDigit b = (48 ≤ b) × (b ≤ 57)

-- the name with this number is declared
abbrev pub is_taken : ℕ → ℕ → List Form → Bool
is_taken tens ones fs = is_declared (numbered (codes "reply_") tens ones) fs

-- The name has a number, and isn't declared.
pub record HasFreeName (fs : List Form) (a : Added) : Type 0 where
  pub tens : ℕ
  pub ones : ℕ
  pub digits : IsDigit tens × IsDigit ones
  pub reply : a.reply ≡ numbered (codes "reply_") tens ones
  pub free : is_taken tens ones fs ≡ false

-- The statements declare the name of each number.
abbrev pub HasNoneFree : List Form → Type 0
HasNoneFree fs = (tens ones : ℕ) → IsDigit tens → IsDigit ones → is_taken tens ones fs ≡ true
