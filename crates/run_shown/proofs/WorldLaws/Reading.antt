-- What waits at a gate is read one by one, the oldest first: so many of the first are read.
use Rattle.std.proofs.Common.{◌≡◌, ℕ, zero, suc, ◌+◌, List, [], ◌∷◌, ◌++◌, take, refl, sym, ap, ◌∙◌, arith, Some, None}
use Rattle.std.specs.Prelude.{length, ◌<◌, ◌≤◌, slice_get}
use Rattle.std.proofs.lemmas.List.{length-append, take_more}
use Rattle.std.proofs.lemmas.Option.{get_or_from_slice_get, slice_get_within}
use Rattle.rank_node.specs.declared.waiting.Waiting.{Waiting}

-- so many of the first were read
pub record IsReadSoFar (pending read : List Waiting) : Type 0 where
  pub first : read ≡ take (length read) pending
  pub most : length read ≤ length pending

-- at first none is read
pub none_read : (pending : List Waiting) → IsReadSoFar pending []
none_read pending = record { first = refl; most = omega (arith) }

-- the one behind those that were read is read too
pub one_more_read : (pending read : List Waiting) (next : Waiting) → IsReadSoFar pending read → slice_get pending (length read) ≡ Some next
    → IsReadSoFar pending (read ++ next ∷ [])
one_more_read pending read next so_far found =
    let within : length read < length pending = slice_get_within pending (length read) next found in
    let longer : length (read ++ next ∷ []) ≡ length read + 1 = length-append read (next ∷ []) in
    let more : take (length read + 1) pending ≡ take (length read) pending ++ next ∷ [] =
    take_more pending (length read) next within
    ∙ ap (λ z. take (length read) pending ++ z ∷ []) (get_or_from_slice_get pending (length read) next next found) in
    record {
      first = ap (λ z. z ++ next ∷ []) so_far.first ∙ sym more ∙ ap (λ n. take n pending) (sym longer);
      most = omega (arith, longer, within);
    }

-- where none is at a place, the first up to there are all
all_up_to : (pending : List Waiting) (n : ℕ) → slice_get pending n ≡ None → take n pending ≡ pending
all_up_to [] zero none = refl
all_up_to [] (suc n) none = refl
all_up_to (next ∷ rest) zero none = absurd cc
all_up_to (next ∷ rest) (suc n) none = ap (λ z. next ∷ z) (all_up_to rest n none)

-- where none is behind those that were read, all are read
pub all_read : (pending read : List Waiting) → IsReadSoFar pending read → slice_get pending (length read) ≡ None → read ≡ pending
all_read pending read so_far none = so_far.first ∙ all_up_to pending (length read) none

-- what is left to read becomes less
pub less_left : (pending read : List Waiting) (next : Waiting) → slice_get pending (length read) ≡ Some next → length read < length pending
less_left pending read next found = slice_get_within pending (length read) next found
