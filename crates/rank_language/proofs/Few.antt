-- How many variables and arrays a whole program declares: no more than the tables have room for, since each declaration may stand
-- where it does only while its table isn't full.
use Rattle.limits.specs.Limits.{most_variables, most_arrays}
use Rattle.std.proofs.Common.{◌≡◌, ℕ, ◌+◌, ◌≤◌, List, [], ◌∷◌, ◌++◌, length, false, arith, length-append}
use Rattle.std.proofs.lemmas.Bool.Decides.{nat_tests}
use Rattle.rank_text.specs.Grammar.Forms.{Form, var_form, array_form, let_form, item_form, if_form, else_form, end_form, while_form}
use Rattle.rank_text.specs.Grammar.Forms.{send_form, recv_form, probe_form, try_probe_form, print_form, barrier_form, bcast_form, reduce_form}
use Rattle.rank_text.specs.Checker.Scope.{Scope, nothing_yet, is_past_table, after, after_all, AllMayStand, IsWhole}

-- The tables are no longer than they may be.
pub record IsFew (s : Scope) : Type 0 where
  pub variables : length s.variables ≤ most_variables
  pub arrays : length s.arrays ≤ most_arrays

-- a table with room for a variable isn't full
room_for_variable : (s : Scope) (x : List ℕ) → is_past_table s (var_form x) ≡ false → length s.variables + 1 ≤ most_variables
room_for_variable s x q = grind (arith, nat_tests)

-- and so one with room for an array
room_for_array : (s : Scope) (x : List ℕ) (n : ℕ) → is_past_table s (array_form x n) ≡ false → length s.arrays + 1 ≤ most_arrays
room_for_array s x n q = grind (arith, nat_tests)

-- what is put last makes a list longer by one
one_longer : {A : Type 0} (xs : List A) (x : A) (most : ℕ) → length xs + 1 ≤ most → length (xs ++ x ∷ []) ≤ most
one_longer xs x most h = rw (length-append xs (x ∷ [])) h

-- the tables behind a statement that may stand are no longer than they may be
after_few : (s : Scope) (f : Form) → is_past_table s f ≡ false → IsFew s → IsFew (after s f)
after_few s (var_form x) q h = record { variables = one_longer s.variables x most_variables (room_for_variable s x q); arrays = h.arrays }
after_few s (array_form x n) q h = record { variables = h.variables; arrays = one_longer s.arrays (x, n) most_arrays (room_for_array s x n q) }
after_few s (let_form x e) q h = h
after_few s (item_form x i e) q h = h
after_few s (if_form e) q h = record { variables = h.variables; arrays = h.arrays }
after_few s (while_form e) q h = record { variables = h.variables; arrays = h.arrays }
after_few s else_form q h = record { variables = h.variables; arrays = h.arrays }
after_few s end_form q h = record { variables = h.variables; arrays = h.arrays }
after_few s (send_form d t p) q h = h
after_few s (recv_form c t x) q h = h
after_few s (probe_form c t) q h = h
after_few s (try_probe_form c t x) q h = h
after_few s (print_form e) q h = h
after_few s barrier_form q h = h
after_few s (bcast_form r x) q h = h
after_few s (reduce_form o r e x) q h = h

-- and so behind statements
few_from : (s : Scope) (fs : List Form) → AllMayStand s fs → IsFew s → IsFew (after_all s fs)
few_from s [] h k = k
few_from s (f ∷ fs) h k = few_from (after s f) fs h.1 (after_few s f h.0.within k)

-- the tables of a whole program are no longer than they may be
pub few_tables : (fs : List Form) → IsWhole fs → IsFew (after_all nothing_yet fs)
few_tables fs h = few_from nothing_yet fs h.standing (record { variables = omega arith; arrays = omega arith })
