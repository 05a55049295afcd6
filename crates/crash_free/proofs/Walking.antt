-- Slots are walked from the front on, before which all are empty.
use Rattle.std.proofs.Common.{◌≡◌, ℕ, zero, suc, ◌+◌, ◌-◌, ◌<◌, ◌≤◌, true, false, List, [], ◌∷◌, ◌++◌, Some, None, length, refl, sym, ap, ◌∙◌, subst, arith}
use Rattle.std.proofs.Common.{get_or, take, drop, ◌⊎◌, inl, inr}
use Rattle.std.specs.Prelude.{position, slice_index_or, slice_set}
use Rattle.std.proofs.lemmas.Bool.{cases_eq}
use Rattle.std.proofs.lemmas.List.{get_or_append_left, length-drop, take_all}
use Rattle.matching.specs.declared.selector.Selector.{Selector}
use Rattle.crash_free.specs.Alike.{packets_in}
use Rattle.crash_free.specs.Slots.{Slot, passes}
use Rattle.crash_free.specs.Index.{passes_at, AreEmptyBefore}
use Rattle.crash_free.proofs.SlotLemmas.{is_position, no_position}

-- no slot before this place passes
abbrev pub NonePasses : Selector → List Slot → ℕ → Type 0
NonePasses w slots n = (place : ℕ) → place < n → passes_at w slots place ≡ false

-- none that is empty does
pub none_before : (w : Selector) (front : ℕ) (slots : List Slot) → AreEmptyBefore front slots → NonePasses w slots front
none_before w front slots empty place low = ap (passes w) (empty place low)

-- nor one more that doesn't
pub no_more : (w : Selector) (slots : List Slot) (n : ℕ) → NonePasses w slots n → passes_at w slots n ≡ false → NonePasses w slots (n + 1)
no_more w slots n before here place low = go (cases_eq place n)
  where
    go : (place ≡ n) ⊎ (place ≡ n → ⊥) → passes_at w slots place ≡ false
    go (inl same) = subst (λ k. passes_at w slots k ≡ false) (sym same) here
    go (inr apart) = before place (omega (arith, low, apart))

-- the first that passes is at the position
pub first_is : (w : Selector) (slots : List Slot) (n : ℕ) → NonePasses w slots n → n < length slots → passes_at w slots n ≡ true
    → Some n ≡ position (passes w) slots
first_is w slots n before low here = sym (is_position (passes w) slots n None low here before)

-- and where none does there is no position
pub none_is : (w : Selector) (slots : List Slot) (n : ℕ) → NonePasses w slots n → length slots ≤ n → None ≡ position (passes w) slots
none_is w slots n before all = sym (no_position (passes w) slots None (λ k low. before k (omega (arith, low, all))))

-- the front moves past one more empty slot
pub one_more_empty : (slots : List Slot) (n : ℕ) → AreEmptyBefore n slots → slice_index_or slots n None ≡ None → AreEmptyBefore (n + 1) slots
one_more_empty slots n before here place low = go (cases_eq place n)
  where
    go : (place ≡ n) ⊎ (place ≡ n → ⊥) → slice_index_or slots place None ≡ None
    go (inl same) = subst (λ k. slice_index_or slots k None ≡ None) (sym same) here
    go (inr apart) = before place (omega (arith, low, apart))

-- what is empty before the front stays so with a slot more
pub still_empty : (slots : List Slot) (front : ℕ) (slot : Slot) → front ≤ length slots → AreEmptyBefore front slots
    → AreEmptyBefore front (slots ++ slot ∷ [])
still_empty slots front slot within before place low =
    get_or_append_left slots (slot ∷ []) None place (omega (arith, within, low)) ∙ before place low

-- and where one is emptied
pub emptied : (slots : List Slot) (front k : ℕ) → AreEmptyBefore front slots → AreEmptyBefore front (slice_set slots k None)
emptied slots front k before place low = at slots k place (before place low)
  where
    at : (slots : List Slot) (k place : ℕ) → get_or slots place None ≡ None → get_or (slice_set slots k None) place None ≡ None
    at [] k place e = e
    at (slot ∷ slots) zero zero e = refl
    at (slot ∷ slots) zero (suc place) e = e
    at (slot ∷ slots) (suc k) zero e = e
    at (slot ∷ slots) (suc k) (suc place) e = at slots k place e

-- slots that follow on empty ones have all packets
behind_empty : (slots : List Slot) (front : ℕ) → AreEmptyBefore front slots → packets_in (drop front slots) ≡ packets_in slots
behind_empty slots zero empty = refl
behind_empty [] (suc n) empty = refl
behind_empty (slot ∷ slots) (suc n) empty =
    behind_empty slots n (λ place low. empty (suc place) (omega (arith, low)))
    ∙ sym (ap (λ z. packets_in (z ∷ slots)) (empty zero (omega arith)))

-- so do those from the front on
pub packets_behind : (slots : List Slot) (front : ℕ) → AreEmptyBefore front slots → packets_in (take (length slots - front) (drop front slots)) ≡ packets_in slots
packets_behind slots front empty =
    let rest = length-drop front slots in
    ap packets_in (take_all (length slots - front) (drop front slots) (omega (arith, rest))) ∙ behind_empty slots front empty
