-- The first message that a selector names stands at the first place that passes of the queue of the selector's kind: each
-- message that it names is in that queue, and places rise along it.
use Rattle.std.proofs.Common.{◌≡◌, ℕ, zero, suc, ◌<◌, ◌≤◌, Bool, true, false, List, [], ◌∷◌, Option, Some, None, length, refl, sym, ap, ◌∙◌, subst, arith}
use Rattle.std.proofs.Common.{slice_get, get_or, ◌&&◌, ◌⊎◌, inl, inr}
use Rattle.std.specs.Prelude.{position, option_and_then}
use Rattle.std.proofs.lemmas.Bool.{eqb-true, false≢true, cases_eq, cases_lt, and_parts}
use Rattle.std.proofs.lemmas.List.Quantifiers.{position-Some}
use Rattle.std.proofs.lemmas.Option.{slice_get_within, get_or_from_slice_get, slice_get-get_or}
use Rattle.matching.specs.PacketValue as packet
use Rattle.matching.specs.Matching.{matches, same_context, allows}
use Rattle.matching.specs.declared.selector.Selector.{Selector}
use Rattle.crash_free.specs.Slots.{Slot, passes}
use Rattle.crash_free.specs.Index.{IndexValue, kind_of, passes_at, queue_number, queue_of, IsListed, IsListedTwice, IsRising, IsIndex}
use Rattle.crash_free.proofs.SlotLemmas.{is_position, no_position}
use Rattle.rank_machine.proofs.Making.{same_contexts}

-- what a place of a list holds is one thing
pub one_there : {A : Type 0} {o : Option A} (x y : A) → o ≡ Some x → o ≡ Some y → x ≡ y
one_there x y e f = some_same (sym e ∙ f)
  where
    some_same : {B : Type 0} {x y : B} → Some x ≡ Some y → x ≡ y
    some_same q = cc

-- a message that the selector names is of the selector's kind
named_kind : (w : Selector) (i : IndexValue) (m : packet.PacketValue) (place : ℕ) → matches w m ≡ true → IsListedTwice i m.context m.tag place
    → IsListed i (kind_of w.context w.tag) place
named_kind w i m place e twice = by_tag w.tag r.1
  where
    r : ((same_context w.context m.context && allows w.source m.source) ≡ true) × (allows w.tag m.tag ≡ true)
    r = and_parts (same_context w.context m.context && allows w.source m.source) (allows w.tag m.tag) e

    context : m.context ≡ w.context
    context = same_contexts w.context m.context (and_parts (same_context w.context m.context) (allows w.source m.source) r.0).0

    by_tag : (t : Option ℕ) → allows t m.tag ≡ true → IsListed i (kind_of w.context t) place
    by_tag None f = subst (λ c. IsListed i (kind_of c None) place) context twice.0
    by_tag (Some x) f =
        let tag : x ≡ m.tag = eqb-true x m.tag f in
        subst (λ c. IsListed i (kind_of c (Some x)) place) context (subst (λ t. IsListed i (kind_of m.context (Some t)) place) (sym tag) twice.1)

-- a slot that passes holds a message that the selector names
passing : (w : Selector) (slots : List Slot) (place : ℕ) → passes_at w slots place ≡ true
    → (m : packet.PacketValue) × (slice_get slots place ≡ Some (Some m)) × (matches w m ≡ true)
passing w [] place e = absurd (false≢true e)
passing w (None ∷ slots) zero e = absurd (false≢true e)
passing w (Some m ∷ slots) zero e = (m, refl, e)
passing w (x ∷ slots) (suc k) e = passing w slots k e

-- so its place is in the queue of the selector's kind
in_queue : (w : Selector) (i : IndexValue) (slots : List Slot) (place : ℕ) → IsIndex i slots → passes_at w slots place ≡ true
    → IsListed i (kind_of w.context w.tag) place
in_queue w i slots place index e =
    let p = passing w slots place e in
    named_kind w i p.0 place p.2 (index.listed place p.0 p.1)

-- the queue in which a place is listed is that of the kind
queue_listed : (i : IndexValue) (kind place : ℕ) (l : IsListed i kind place) → queue_of i kind ≡ Some l.places
queue_listed i kind place l = ap (option_and_then (slice_get i.queues)) l.number ∙ l.there

-- where a kind has no queue no slot passes
pub first_nowhere : (w : Selector) (i : IndexValue) (slots : List Slot) → IsIndex i slots → queue_of i (kind_of w.context w.tag) ≡ None
    → position (passes w) slots ≡ None
first_nowhere w i slots index none = no_position (passes w) slots None (λ k low. fails k (passes_at w slots k) refl)
  where
    never : {A : Type 0} (x : A) → None ≡ Some x → ⊥
    never x e = cc

    fails : (k : ℕ) (b : Bool) → passes_at w slots k ≡ b → passes_at w slots k ≡ false
    fails k false e = e
    fails k true e = absurd (let l = in_queue w i slots k index e in never l.places (sym none ∙ queue_listed i (kind_of w.context w.tag) k l))

-- where there is no position none passes
none_passes : {A : Type 0} (p : A → Bool) (xs : List A) (d : A) → position p xs ≡ None → (n : ℕ) → n ≤ length xs
    → (k : ℕ) → k < n → p (get_or xs k d) ≡ false
none_passes p xs d none zero within k low = absurd (omega (arith, low))
none_passes p xs d none (suc n) within k low = at_last (none_passes p xs d none n (omega (arith, within))) (cases_eq k n)
  where
    never : (x : ℕ) → None ≡ Some x → ⊥
    never x e = cc

    last : ((k : ℕ) → k < n → p (get_or xs k d) ≡ false) → (b : Bool) → p (get_or xs n d) ≡ b → p (get_or xs n d) ≡ false
    last before false e = e
    last before true e = absurd (never n (sym none ∙ is_position p xs n d (omega (arith, within)) e before))

    at_last : ((k : ℕ) → k < n → p (get_or xs k d) ≡ false) → (k ≡ n) ⊎ (k ≡ n → ⊥) → p (get_or xs k d) ≡ false
    at_last before (inl same) = subst (λ z. p (get_or xs z d) ≡ false) (sym same) (last before (p (get_or xs n d)) refl)
    at_last before (inr apart) = before k (omega (arith, low, apart))

-- the number of a queue that is there
numbered : (i : IndexValue) (kind : ℕ) (places : List ℕ) → queue_of i kind ≡ Some places → (n : ℕ) × (slice_get i.queues n ≡ Some places)
numbered i kind places e = go (queue_number i kind) e
  where
    go : (o : Option ℕ) → option_and_then (slice_get i.queues) o ≡ Some places → (n : ℕ) × (slice_get i.queues n ≡ Some places)
    go None e = absurd (never e)
      where
        never : None ≡ Some places → ⊥
        never e = cc
    go (Some n) e = (n, e)

-- where it has one, the first of its places that passes is that of the first slot that does
pub first_in_queue : (w : Selector) (i : IndexValue) (slots : List Slot) (places : List ℕ) → IsIndex i slots
    → queue_of i (kind_of w.context w.tag) ≡ Some places
    → option_and_then (slice_get places) (position (passes_at w slots) places) ≡ position (passes w) slots
first_in_queue w i slots places index queue = go (position (passes_at w slots) places) refl
  where
    at : (k : ℕ) → passes_at w slots k ≡ true → (j : ℕ) × (slice_get places j ≡ Some k)
    at k e =
        let l = in_queue w i slots k index e in
        let same : l.places ≡ places = one_there l.places places (queue_listed i (kind_of w.context w.tag) k l) queue in
        (l.index, subst (λ xs. slice_get xs l.index ≡ Some k) same l.at)

    -- a place of the queue at which nothing passes
    silent : (j k : ℕ) → slice_get places j ≡ Some k → passes_at w slots (get_or places j 0) ≡ false → passes_at w slots k ≡ false
    silent j k there e = subst (λ z. passes_at w slots z ≡ false) (get_or_from_slice_get places j k 0 there) e

    nowhere : position (passes_at w slots) places ≡ None → (k : ℕ) (b : Bool) → passes_at w slots k ≡ b → passes_at w slots k ≡ false
    nowhere none k false e = e
    nowhere none k true e =
        let l = at k e in
        let low = slice_get_within places l.0 k l.1 in
        silent l.0 k l.1 (none_passes (passes_at w slots) places 0 none (length places) (omega arith) l.0 low)

    earlier : (j : ℕ) → j < length places → ((m : ℕ) → m < j → passes_at w slots (get_or places m 0) ≡ false)
        → (k : ℕ) → k < get_or places j 0 → (b : Bool) → passes_at w slots k ≡ b → passes_at w slots k ≡ false
    earlier j low before k less false e = e
    earlier j low before k less true e =
        let l = at k e in
        let n = numbered i (kind_of w.context w.tag) places queue in
        by_order l.0 l.1 (index.rising n.0 places n.1) (cases_lt l.0 j)
      where
        by_order : (m : ℕ) → slice_get places m ≡ Some k → IsRising (length slots) places → (m < j) ⊎ (j ≤ m) → passes_at w slots k ≡ false
        by_order m there rising (inl first) = silent m k there (before m first)
        by_order m there rising (inr late) =
            let order = rising.rises j m (get_or places j 0) k late (slice_get-get_or places j 0 low) there in
            absurd (omega (arith, order, less))

    go : (o : Option ℕ) → position (passes_at w slots) places ≡ o
        → option_and_then (slice_get places) (position (passes_at w slots) places) ≡ position (passes w) slots
    go None e = rw e (sym (no_position (passes w) slots None (λ k low. nowhere e k (passes_at w slots k) refl)))
    go (Some j) e =
        let all = position-Some (passes_at w slots) places j 0 e in
        let found = passing w slots (get_or places j 0) all.1 in
        rw e (slice_get-get_or places j 0 all.0
        ∙ sym (is_position (passes w) slots (get_or places j 0) None (slice_get_within slots (get_or places j 0) (Some found.0) found.1) all.1
        (λ k less. earlier j all.0 all.2 k less (passes_at w slots k) refl)))
