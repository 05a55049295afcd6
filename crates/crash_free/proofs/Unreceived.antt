-- What was never received: slot by slot, and the same of runs in which the same is left.
use Rattle.std.proofs.Common.{◌≡◌, ℕ, zero, suc, ◌+◌, ◌<◌, List, [], ◌∷◌, ◌++◌, None, length, refl, sym, ap, ◌∙◌, arith, take, get_or}
use Rattle.std.specs.Prelude.{map}
use Rattle.std.proofs.lemmas.List.{append_assoc, append-nil, map-append, take_more}
use Rattle.matching.specs.PacketValue as packet
use Rattle.crash_free.specs.declared.leftover.Leftover.{Leftover}
use Rattle.crash_free.specs.Runs.{Passed}
use Rattle.crash_free.specs.Slots.{Slot}
use Rattle.crash_free.specs.Alike.{packets_in, unreceived}
use Rattle.crash_free.specs.Leftovers.{left_by, left_of, join_below, left_for, left_in}
use Rattle.crash_free.proofs.After.{packets_in-append}

-- what is left in one more slot comes behind what is left in those before
pub one_more : (old now : List Leftover) (r s : ℕ) (slots : List Slot) (k : ℕ) (slot : Slot) → k < length slots → slot ≡ get_or slots k None
    → now ≡ old ++ map (left_by r s) (packets_in (take k slots))
    → now ++ map (left_by r s) (packets_in (slot ∷ [])) ≡ old ++ map (left_by r s) (packets_in (take (k + 1) slots))
one_more old now r s slots k slot low is so =
    ap (λ z. z ++ map (left_by r s) (packets_in (slot ∷ []))) so
    ∙ append_assoc old (map (left_by r s) (packets_in (take k slots))) (map (left_by r s) (packets_in (slot ∷ [])))
    ∙ ap (λ z. old ++ z) (sym (map-append (left_by r s) (packets_in (take k slots)) (packets_in (slot ∷ []))))
    ∙ ap (λ z. old ++ map (left_by r s) z) (sym (packets_in-append (take k slots) (slot ∷ [])))
    ∙ ap (λ z. old ++ map (left_by r s) (packets_in (take k slots ++ z ∷ []))) is
    ∙ ap (λ z. old ++ map (left_by r s) (packets_in z)) (sym (take_more slots k None low))

-- lists that are the same for each number below one are the same joined
join_same : {A : Type 0} (f g : ℕ → List A) (n : ℕ) → ((k : ℕ) → k < n → f k ≡ g k) → join_below f n ≡ join_below g n
join_same f g zero each = refl
join_same f g (suc k) each =
    ap (λ z. z ++ f k) (join_same f g k (λ i low. each i (omega (arith, low)))) ∙ ap (λ z. join_below g k ++ z) (each k (omega arith))

-- runs in which the same is left of each source for each rank have the same left
pub left_same : (n : ℕ) (P Q : List Passed) → ((s r : ℕ) → s < n → r < n → unreceived P s r ≡ unreceived Q s r) → left_in n P ≡ left_in n Q
left_same n P Q each =
    join_same (left_for n P) (left_for n Q) n
    (λ r low. join_same (left_of P r) (left_of Q r) n (λ s low'. ap (λ z. map (left_by r s) z) (each s r low' low)))
