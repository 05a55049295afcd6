-- The lists of the first sources, and the empty ones behind them.
use Rattle.std.proofs.Common.{◌≡◌, ℕ, zero, suc, ◌+◌, ◌-◌, ◌<◌, ◌≤◌, List, [], ◌∷◌, ◌++◌, length, refl, sym, ap, subst, ◌∙◌, arith}
use Rattle.std.proofs.Common.{get_or, replicate, None, ◌⊎◌, inl, inr}
use Rattle.std.specs.Prelude.{slice_get, slice_set, IsSome, IsSomeAnd, Result, Ok, Err, IfOk, OnOk, OnErr}
use Rattle.std.proofs.lemmas.Bool.{cases_lt}
use Rattle.std.proofs.lemmas.List.{append_assoc, get_or_append_left, get_or-append_right, get_or_read, set-append_left, length-append, length-set}
use Rattle.limits.specs.Limits.{most_ranks}
use Rattle.crash_free.specs.Slots.{Slot}
use Rattle.crash_free.specs.Inbound.{all_sources, of_source}
use Rattle.crash_free.proofs.Receivers.{stays_put}

-- the empty ones
abbrev others : List (List Slot) → List (List Slot)
others first = replicate (most_ranks - length first) []

-- each of the first is that of its source
of_first : (first : List (List Slot)) (s : ℕ) → s < length first → of_source (all_sources first) s ≡ get_or first s []
of_first first s low = get_or_append_left first (others first) [] s low

-- what is empty everywhere
empty_there : (k i : ℕ) → get_or {A = List Slot} (replicate k []) i [] ≡ []
empty_there zero i = refl
empty_there (suc k) zero = refl
empty_there (suc k) (suc i) = empty_there k i

-- each other is empty
of_other : (first : List (List Slot)) (s : ℕ) → length first ≤ s → of_source (all_sources first) s ≡ []
of_other first s high =
    get_or-append_right first (others first) (length first) s [] refl high ∙ empty_there (most_ranks - length first) (s - length first)

-- a source of which something is there is one of the first
pub first_there : (first : List (List Slot)) (s i : ℕ) → IsSomeAnd (slice_get (of_source (all_sources first) s) i) IsSome → s < length first
first_there first s i there = by_place (cases_lt s (length first))
  where
    by_place : (s < length first) ⊎ (length first ≤ s) → s < length first
    by_place (inl low) = low
    by_place (inr high) = absurd (subst (λ (xs : List Slot). IsSomeAnd (slice_get xs i) IsSome) (of_other first s high) there)

-- where one of the first is written, that of its source is
is_put : (first : List (List Slot)) (s : ℕ) (x : List Slot) → s < length first → all_sources (slice_set first s x) ≡ slice_set (all_sources first) s x
is_put first s x low =
    let size = length-set first s x in
    ap (λ k. slice_set first s x ++ replicate (most_ranks - k) []) size ∙ sym (set-append_left first (others first) s x low)

-- an empty one more
pub one_reached : (first : List (List Slot)) → length first < most_ranks → all_sources (first ++ [] ∷ []) ≡ all_sources first
one_reached first low =
    let rest = most_ranks - (length first + 1) in
    let size : length (first ++ [] ∷ []) ≡ length first + 1 = length-append first ([] ∷ []) in
    let count : suc rest ≡ most_ranks - length first = omega (arith, low) in
    append_assoc first ([] ∷ []) (others (first ++ [] ∷ []))
    ∙ ap (λ k. first ++ [] ∷ replicate (most_ranks - k) []) size
    ∙ ap (λ k. first ++ replicate k []) count

-- A list that is written

-- where a list is what stands at its place it is that of the source
is_of : (first : List (List Slot)) (s : ℕ) (before : List Slot) → s < length first → before ≡ get_or first s before → before ≡ of_source (all_sources first) s
is_of first s before low read = get_or_read first s before low read [] ∙ sym (of_first first s low)

-- a message is put behind the others of its source
pub is_pushed : {A E : Type 0} (old first : List (List Slot)) (s : ℕ) (before after : List Slot) (slot : Slot) (result : Result A E)
    → all_sources first ≡ all_sources old → s < length first → before ≡ get_or first s before → OnOk result (after ≡ before ++ slot ∷ [])
    → OnOk result (all_sources (slice_set first s after) ≡ slice_set (all_sources old) s (of_source (all_sources old) s ++ slot ∷ []))
is_pushed old first s before after slot (Ok y) same low read is =
    is_put first s after low
    ∙ ap (λ xs. slice_set (all_sources first) s xs) (is ∙ ap (λ xs. xs ++ slot ∷ []) (is_of first s before low read))
    ∙ ap (λ all. slice_set all s (of_source all s ++ slot ∷ [])) same
is_pushed old first s before after slot (Err y) same low read is = tt

-- one is taken
pub is_emptied : {A E : Type 0} (first : List (List Slot)) (s i : ℕ) (before after : List Slot) (result : Result A E) → s < length first
    → before ≡ get_or first s before → OnOk result (after ≡ slice_set before i None)
    → OnOk result (all_sources (slice_set first s after) ≡ slice_set (all_sources first) s (slice_set (of_source (all_sources first) s) i None))
is_emptied first s i before after (Ok y) low read is =
    is_put first s after low
    ∙ ap (λ xs. slice_set (all_sources first) s xs) (is ∙ ap (λ xs. slice_set xs i None) (is_of first s before low read))
is_emptied first s i before after (Err y) low read is = tt

-- or nothing changes
pub is_left : {A E : Type 0} (old first : List (List Slot)) (s : ℕ) (before after : List Slot) (result : Result A E) → all_sources first ≡ all_sources old
    → before ≡ get_or first s before → OnErr result (after ≡ before) → OnErr result (all_sources (slice_set first s after) ≡ all_sources old)
is_left old first s before after (Ok y) same read is = tt
is_left old first s before after (Err y) same read is = ap all_sources (stays_put first s before after read is) ∙ same

-- and the one that is there is that of its source
pub is_there : {A E : Type 0} (first : List (List Slot)) (s : ℕ) (before : List Slot) (P : List Slot → A → Type 0) (result : Result A E) → s < length first
    → before ≡ get_or first s before → IfOk result (P before) → IfOk result (P (of_source (all_sources first) s))
is_there first s before P result low read is = subst (λ xs. IfOk result (P xs)) (is_of first s before low read) is
