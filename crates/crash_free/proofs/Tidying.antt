-- A queue loses places at its front whose slots are empty: what holds a message is still listed.
use Rattle.std.proofs.Common.{◌≡◌, ℕ, zero, suc, ◌<◌, List, [], ◌∷◌, ◌++◌, Option, Some, None, length, refl, sym, ap, ◌∙◌}
use Rattle.std.proofs.Common.{subst, arith, slice_get, get_or, ◌⊎◌, inl, inr}
use Rattle.std.specs.Prelude.{slice_set, option_to_list}
use Rattle.std.proofs.lemmas.Option.{get_or_from_slice_get}
use Rattle.matching.specs.PacketValue as packet
use Rattle.crash_free.specs.Slots.{Slot}
use Rattle.crash_free.specs.Index.{IndexValue, queue_number, AreThere, IsListed, IsRising, IsIndex, LosesEmpty, IsFrontEmpty}
use Rattle.crash_free.proofs.Lists.{push_cases}
use Rattle.crash_free.proofs.Keeping.{set_cases}
use Rattle.crash_free.proofs.Indexing.{full, with_queue, still_listed, queue_read}

-- what stands in two lists stands in the first or in the second
append_cases : (xs ys : List ℕ) (k x : ℕ) → slice_get (xs ++ ys) k ≡ Some x → (slice_get xs k ≡ Some x) ⊎ ((j : ℕ) × (slice_get ys j ≡ Some x))
append_cases [] ys k x e = inr (k, e)
append_cases (z ∷ xs) ys zero x e = inl e
append_cases (z ∷ xs) ys (suc k) x e = append_cases xs ys k x e

-- the end of a list that rises does
rising_end : (n : ℕ) (xs ys : List ℕ) → IsRising n (xs ++ ys) → IsRising n ys
rising_end n [] ys r = r
rising_end n (x ∷ xs) ys r = rising_end n xs ys (record {
  within = λ i p e. r.within (suc i) p e;
  rises = λ i j early late le e f. r.rises (suc i) (suc j) early late (omega (arith, le)) e f;
})

-- a queue without places at which slots are empty
tidied : (i : IndexValue) (slots : List Slot) (q : ℕ) (before after : List ℕ) → IsIndex i slots → slice_get i.queues q ≡ Some before
    → LosesEmpty slots before after → IsIndex (with_queue i q after) slots
tidied i slots q before after index there loses =
    record {
      listed = λ place m e. let l = index.listed place m e in (on _ place m e l.0, on _ place m e l.1);
      rising = λ k ys e. at (set_cases i.queues q after k ys e);
    }
  where
    kept : (place : ℕ) (m : packet.PacketValue) → slice_get slots place ≡ Some (Some m) → (j : ℕ) → slice_get before j ≡ Some place
        → (k : ℕ) × (slice_get after k ≡ Some place)
    kept place m e j f = by_part (append_cases loses.lost after j place (subst (λ xs. slice_get xs j ≡ Some place) loses.parts f))
      where
        by_part : (slice_get loses.lost j ≡ Some place) ⊎ ((k : ℕ) × (slice_get after k ≡ Some place)) → (k : ℕ) × (slice_get after k ≡ Some place)
        by_part (inl lost) = absurd (full m (sym (get_or_from_slice_get slots place (Some m) None e) ∙ loses.empty j place lost))
        by_part (inr left) = left

    on : (kind place : ℕ) (m : packet.PacketValue) → slice_get slots place ≡ Some (Some m) → IsListed i kind place → IsListed (with_queue i q after) kind place
    on kind place m e l = still_listed i q before after kind place there (kept place m e) l

    at : {k : ℕ} {ys : List ℕ} → ((q ≡ k) × (ys ≡ after)) ⊎ ((q ≡ k → ⊥) × (slice_get i.queues k ≡ Some ys)) → IsRising (length slots) ys
    at (inl h) =
        subst (IsRising (length slots)) (sym h.1)
        (rising_end (length slots) loses.lost after (subst (IsRising (length slots)) loses.parts (index.rising q before there)))
    at (inr h) = index.rising _ _ h.1

-- a queue that a call reads is tidied
pub tidied_at : (now : IndexValue) (kinds : List (ℕ × ℕ)) (queues : List (List ℕ)) (slots : List Slot) (q kind : ℕ) (before after : List ℕ)
    → record { kinds = kinds; queues = queues } ≡ now → AreThere (record { kinds = kinds; queues = queues }) → IsIndex now slots
    → queue_number (record { kinds = kinds; queues = queues }) kind ≡ Some q → before ≡ get_or queues q before → LosesEmpty slots before after
    → IsIndex (record { kinds = kinds; queues = slice_set queues q after }) slots
tidied_at now kinds queues slots q kind before after seen there index number read loses =
    tidied (record { kinds = kinds; queues = queues }) slots q before after (subst (λ i. IsIndex i slots) (sym seen) index)
    (queue_read kinds queues q kind before there number read) loses

-- nothing is lost
pub loses_none : (slots : List Slot) (places : List ℕ) → LosesEmpty slots places places
loses_none slots places = record { lost = []; parts = refl; empty = λ k place e. absurd (never place e) }
  where
    never : (place : ℕ) → None ≡ Some place → ⊥
    never place e = cc

-- a queue with something in front isn't empty
pub front_there : (slots : List Slot) (places : List ℕ) → IsFrontEmpty slots places → 0 < length places
front_there slots [] e = absurd e
front_there slots (p ∷ places) e = omega arith

-- one more is lost, where its slot is empty
pub loses_one_more : (slots : List Slot) (places now next : List ℕ) (o : Option ℕ) → LosesEmpty slots places now → IsFrontEmpty slots now
    → now ≡ option_to_list o ++ next → LosesEmpty slots places next
loses_one_more slots places now next None l front e = subst (λ xs. LosesEmpty slots places xs) e l
loses_one_more slots places now next (Some p) l front e =
    record {
      lost = l.lost ++ p ∷ [];
      parts = l.parts ∙ ap (λ xs. l.lost ++ xs) e ∙ moved l.lost;
      empty = λ k place at. by_place (push_cases l.lost p k place at);
    }
  where
    moved : (xs : List ℕ) → xs ++ (p ∷ next) ≡ (xs ++ p ∷ []) ++ next
    moved [] = refl
    moved (x ∷ xs) = ap (λ z. x ∷ z) (moved xs)

    first : IsFrontEmpty slots (p ∷ next)
    first = subst (IsFrontEmpty slots) e front

    by_place : {k place : ℕ} → (slice_get l.lost k ≡ Some place) ⊎ ((k ≡ length l.lost) × (place ≡ p)) → get_or slots place None ≡ None
    by_place (inl old) = l.empty _ _ old
    by_place (inr new) = subst (λ z. get_or slots z None ≡ None) (sym new.1) first
