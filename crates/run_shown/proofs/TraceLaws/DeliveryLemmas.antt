-- The sends of messages that are taken or hit, as they are found and told.
use Rattle.std.proofs.Common.{◌≡◌, ℕ, zero, suc, ◌+◌, ◌<◌, ◌≤◌, List, [], ◌∷◌, ◌++◌, ◌⊎◌, inl, inr}
use Rattle.std.proofs.Common.{refl, sym, ap, ◌∙◌, arith, Option, Some, None, length, min, slice_get, slice_index_or, slice_set}
use Rattle.std.specs.Prelude.{get_or}
use Rattle.std.proofs.lemmas.Bool.{cases_lt}
use Rattle.std.proofs.lemmas.List.{map-append, length-map, length_push, get_or_append_left}
use Rattle.std.proofs.Math.Seq.{get_or-append_seam, map-set_same}
use Rattle.std.proofs.lemmas.Option.{slice_get_cases, slice_get_within}
use Rattle.rank_machine.specs.Acts.{Act, sends, takes, hits, misses, prints}
use Rattle.crash_free.specs.Runs.{Passed, history}
use Rattle.run_shown.specs.Trace.Places.{greatest_told}
use Rattle.crash_free.specs.SendIndex.Sends.{run_before}
use Rattle.run_shown.specs.Trace.Deliveries.{AreClocked, AreDelivered, AreFoundUpTo, as_told, delivered, made_by, sends_found, sent_as, sent_at, sent_by}
use Rattle.run_shown.specs.declared.trace.deliveries.Delivery.{Delivery}
use Rattle.run_shown.specs.declared.trace.place.Place.{Place}

-- a mark leaves the send
pub marked_same : (found : List Delivery) (i : ℕ) (y d : Delivery) → y.send ≡ (get_or found i d).send → sends_found (slice_set found i y) ≡ sends_found found
marked_same found i y d same = map-set_same (λ (z : Delivery). z.send) found i y d same

-- no act is there before the first
pub none_found : (acts : List Passed) → AreFoundUpTo acts 0 []
none_found acts = record { as_many = refl; each = λ index p few there. absurd (omega (arith, few)) }

-- one act more is followed
module _ (acts : List Passed) (i : ℕ) (found now : List Delivery) (d : Delivery) (p : Passed) (so_far : AreFoundUpTo acts i found)
    (there : slice_get acts i ≡ Some p) (is : sent_at acts d.send ≡ delivered (run_before acts i) p) (kept : sends_found now ≡ sends_found found) where
  -- the list of sends is as long as was followed
  as_long : length (sends_found now) ≡ i
  as_long = ap length kept ∙ length-map found (λ (z : Delivery). z.send) ∙ so_far.as_many

  -- the sends with the new one
  longer : sends_found (now ++ d ∷ []) ≡ sends_found now ++ d.send ∷ []
  longer = map-append (λ (z : Delivery). z.send) now (d ∷ [])

  at_each : (index : ℕ) (q : Passed) → index < i + 1 → slice_get acts index ≡ Some q → (index < i) ⊎ (i ≤ index)
      → sent_at acts (slice_index_or (sends_found (now ++ d ∷ [])) index None) ≡ delivered (run_before acts index) q
  at_each index q few here (inl before) =
      ap (λ z. sent_at acts (slice_index_or z index None)) longer
      ∙ ap (sent_at acts) (get_or_append_left (sends_found now) (d.send ∷ []) None index (omega (arith, before, as_long)))
      ∙ ap (λ z. sent_at acts (slice_index_or z index None)) kept
      ∙ so_far.each index q before here
  at_each index q few here (inr from) =
      let last : index ≡ i = omega (arith, few, from) in
      let at : index ≡ length (sends_found now) = last ∙ sym as_long in
      let both : Some p ≡ Some q = sym there ∙ ap (slice_get acts) (sym last) ∙ here in
      let same : p ≡ q = cc in
      ap (λ z. sent_at acts (slice_index_or z index None)) longer
      ∙ ap (λ k. sent_at acts (slice_index_or (sends_found now ++ d.send ∷ []) k None)) at
      ∙ ap (sent_at acts) (get_or-append_seam (sends_found now) d.send [] None)
      ∙ is
      ∙ ap (λ k. delivered (run_before acts k) p) (sym last)
      ∙ ap (delivered (run_before acts index)) same

  pub found_more : AreFoundUpTo acts (i + 1) (now ++ d ∷ [])
  found_more = record {
    as_many = length_push now d ∙ ap (λ z. z + 1) (sym (length-map now (λ (z : Delivery). z.send)) ∙ as_long);
    each = λ index q few here. at_each index q few here (cases_lt index i);
  }

-- the message of a send with a clock up to the greatest
told_by : (act : Act) (clock : ℕ) → sent_by act (min clock greatest_told) ≡ as_told (sent_by act clock)
told_by (sends dest context tag items) clock = refl
told_by (takes source place) clock = refl
told_by (hits source place) clock = refl
told_by misses clock = refl
told_by (prints value) clock = refl

-- as there are as many places as acts, each act has one
has_place : (acts : List Passed) (places : List Place) (k : ℕ) (p : Passed) → length places ≡ length acts → slice_get acts k ≡ Some p
    → slice_get places k ≡ None → ⊥
has_place acts places k p same here none = go (slice_get_cases places k).1
  where
    go : ((x : Place) × (k < length places) × (slice_get places k ≡ Some x) × (get_or places k x ≡ x)) ⊎ ((length places ≤ k) × (slice_get places k ≡ None)) → ⊥
    go (inl there) = let clash : None ≡ Some there.0 = sym none ∙ there.2 in absurd cc
    go (inr past) = omega (arith, slice_get_within acts k p here, past.0, same)

-- the message of an act at its place is the one that it sent, as it is told
made_as_told : (acts : List Passed) (places : List Place) (k : ℕ) → AreClocked acts places
    → made_by (slice_get acts k) (slice_get places k) ≡ as_told (sent_at acts (Some k))
made_as_told acts places k clocked = go (slice_get acts k) (slice_get places k) refl refl
  where
    go : (q : Option Passed) (r : Option Place) → slice_get acts k ≡ q → slice_get places k ≡ r → made_by q r ≡ as_told (sent_as acts k q)
    go None None here there = refl
    go None (Some place) here there = refl
    go (Some p) (Some place) here there =
        ap (sent_by p.act) (clocked.each k p place here there) ∙ told_by p.act (length (history (run_before acts (k + 1)) p.rank))
    go (Some p) None here there =
        absurd (has_place acts places k p clocked.as_many here there)

-- the send that was found, where one was looked for
abbrev pub matching_send : Option Delivery → Option ℕ
matching_send (Some d) = d.send
matching_send None = None

-- it stands among the sends
send_is : (found : List Delivery) (i : ℕ) → slice_index_or (sends_found found) i None ≡ matching_send (slice_get found i)
send_is [] i = refl
send_is (d ∷ found) zero = refl
send_is (d ∷ found) (suc i) = send_is found i

-- so an act is told with what it takes or hits
module _ (acts : List Passed) (places : List Place) (found : List Delivery) (index : ℕ) (p : Passed) (clocked : AreClocked acts places)
    (are : AreDelivered acts found) (there : slice_get acts index ≡ Some p) where
  looked : sent_at acts (matching_send (slice_get found index)) ≡ delivered (run_before acts index) p
  looked = ap (sent_at acts) (sym (send_is found index)) ∙ are.each index p (slice_get_within acts index p there) there

  pub told_none : matching_send (slice_get found index) ≡ None → None ≡ as_told (delivered (run_before acts index) p)
  told_none none = ap as_told (ap (sent_at acts) (sym none) ∙ looked)

  pub told_some : (k : ℕ) → matching_send (slice_get found index) ≡ Some k
      → made_by (slice_get acts k) (slice_get places k) ≡ as_told (delivered (run_before acts index) p)
  told_some k some = made_as_told acts places k clocked ∙ ap as_told (ap (sent_at acts) (sym some) ∙ looked)
