-- What an inbox stands for, after a packet is taken, shown or accepted; and that the packet which `find` gives is eligible.
use Rattle.std.proofs.Common.{◌≡◌, ℕ, zero, suc, ◌<◌, ◌≤◌, ◌⊎◌, inl, inr, ⊎_elim, Bool, true, false, ◌||◌, eqb, List, [], ◌∷◌, ◌++◌, Option}
use Rattle.std.proofs.Common.{Some, refl, sym, ap, subst, ◌∙◌, arith, slice_get, remove, position, length-append}
use Rattle.std.proofs.lemmas.Bool.{eq-eqb, eqb-true, cases_order, cases_lt, cases_Bool, both_ways, or_cases, and_parts, or_parts}
use Rattle.std.proofs.lemmas.Option.{get_or_from_slice_get}
use Rattle.std.proofs.lemmas.List.Quantifiers.{position-Some}
use Rattle.matching.specs.declared.selector.Selector.{Selector}
use Rattle.matching.specs.PacketValue as packet
use Rattle.matching.specs.Matching.{matches}
use Rattle.matching.specs.Inbox.{Mailbox, accepted_from, without}
use Rattle.rank_machine.specs.Acts.{Act, Message, carried, takes, Matches}
use Rattle.rank_machine.proofs.Making.{named}
use Rattle.crash_free.specs.Runs.{History, at_place, taken, takes_it, IsEligible}
use Rattle.crash_free.specs.Grows.{Grows}
use Rattle.crash_free.proofs.Lists.{at_place-append, taken-push}
use Rattle.crash_free.proofs.SlotLemmas.{packet_matching}
use Rattle.bare_world.specs.Misses.{Shows, IsShown}
use Rattle.bare_world.specs.Stands.{InboxStands}

-- what is at k after a removal was at k or at the place above it
get-removed : {A : Type 0} (xs : List A) (i k : ℕ) (x : A) → slice_get (remove xs i) k ≡ Some x
    → (l : ℕ) × (slice_get xs l ≡ Some x) × ((k < i) × (l ≡ k) ⊎ (i ≤ k) × (l ≡ suc k))
get-removed [] zero k x e = absurd cc
get-removed [] (suc i) k x e = absurd cc
get-removed (y ∷ xs) zero k x e = (suc k, e, inr (omega arith, refl))
get-removed (y ∷ xs) (suc i) zero x e = (0, e, inl (omega arith, refl))
get-removed (y ∷ xs) (suc i) (suc k) x e =
    let r = get-removed xs i k x e in
    (suc r.0, r.1, ⊎_elim (λ h. inl (omega (arith, h.0), ap suc h.1)) (λ h. inr (omega (arith, h.0), ap suc h.1)) r.2)

-- what wasn't removed is there
get-kept : {A : Type 0} (xs : List A) (i k : ℕ) (x : A) → slice_get xs k ≡ Some x → (k ≡ i → ⊥) → (l : ℕ) × (slice_get (remove xs i) l ≡ Some x)
get-kept [] i k x e ne = absurd cc
get-kept (y ∷ xs) zero zero x e ne = absurd (ne refl)
get-kept (y ∷ xs) zero (suc k) x e ne = (k, e)
get-kept (y ∷ xs) (suc i) zero x e ne = (0, e)
get-kept (y ∷ xs) (suc i) (suc k) x e ne =
    let r = get-kept xs i k x e (λ q. ne (ap suc q)) in
    (suc r.0, r.1)

-- one place of a list has one element
same_element : {A : Type 0} (xs : List A) (k l : ℕ) (x y : A) → k ≡ l → slice_get xs k ≡ Some x → slice_get xs l ≡ Some y → x ≡ y
same_element xs k l x y q e f = let g : slice_get xs l ≡ Some x = rw q at e in cc

-- a message that a selector names is one whose packet the machine's test accepts
pub matches_if_named : (w : Selector) (p : packet.PacketValue) → Matches w p.source (carried p) → matches w p ≡ true
matches_if_named w p m = packet_matching w p.source (carried p) m

-- what `find` gives: the first packet that the selector names, at its index
pub record Found (w : Selector) (packets : List packet.PacketValue) (k : ℕ) (p : packet.PacketValue) : Type 0 where
  pub at : slice_get packets k ≡ Some p
  pub matching : Matches w p.source (carried p)
  pub first : (l : ℕ) (q : packet.PacketValue) → l < k → slice_get packets l ≡ Some q → Matches w q.source (carried q) → ⊥

-- the packet at the first index that the machine's test accepts is what `find` gives
pub found_at : (w : Selector) (packets : List packet.PacketValue) (k : ℕ) (p : packet.PacketValue) → position (matches w) packets ≡ Some k
    → slice_get packets k ≡ Some p → Found w packets k p
found_at w packets k p e at =
    let f = position-Some (matches w) packets k p e in
    record {
      at = at;
      matching = named w p (subst (λ z. matches w z ≡ true) (get_or_from_slice_get packets k p p at) f.1);
      first = λ l q lt g m.
          let no : matches w q ≡ false = subst (λ z. matches w z ≡ false) (get_or_from_slice_get packets l q p g) (f.2 l lt) in
          both_ways (matches w q) no (matches_if_named w q m);
    }

-- two places with packets of one source have two numbers
two_numbers : (box : Mailbox) (inbound : ℕ → List Message) (h : History) → InboxStands box inbound h → (k l : ℕ) (p q : packet.PacketValue) → (k ≡ l → ⊥)
    → slice_get box.packets k ≡ Some p → slice_get box.packets l ≡ Some q → p.source ≡ q.source → p.number ≡ q.number → ⊥
two_numbers box inbound h i k l p q ne e f s n =
    ⊎_elim (λ same. ne same)
    (λ o. ⊎_elim (λ lt. let r = i.rising k l p q lt e f s in omega (arith, r)) (λ gt. let r = i.rising l k q p gt f e (sym s) in omega (arith, r)) o)
    (cases_order k l)

-- the packet that `find` gives is eligible
pub found_is_eligible : (w : Selector) (box : Mailbox) (inbound : ℕ → List Message) (h : History) (k : ℕ) (p : packet.PacketValue)
    → InboxStands box inbound h → Found w box.packets k p → IsEligible inbound h p.source p.number w
found_is_eligible w box inbound h k p i f =
    record {
      message = carried p;
      there = i.real k p f.at;
      untaken = i.untaken k p f.at;
      matching = f.matching;
      not_overtaking = λ j m l e c. go j m l e c (cases_Bool (taken h p.source j));
    }
  where
    clash : (j l : ℕ) (m : Message) (q : packet.PacketValue) → j < p.number → slice_get box.packets l ≡ Some q → q.source ≡ p.source → q.number ≡ j
        → at_place (inbound p.source) j ≡ Some m → Matches w p.source m → ⊥
    clash j l m q lt e s n g c =
        let same : carried q ≡ m =
        (let r : at_place (inbound p.source) j ≡ Some (carried q) = rw (s, n) at (i.real l q e) in cc) in
        let hit : Matches w q.source (carried q) =
        subst (λ z. Matches w q.source z) (sym same) (subst (λ z. Matches w z m) (sym s) c) in
        ⊎_elim (λ (z : l < k). f.first l q z e hit)
        (λ (z : k ≤ l). ⊎_elim
        (λ (same_place : k ≡ l). let pq : p ≡ q = same_element box.packets k l p q same_place f.at e in
        (let n2 : p.number ≡ q.number = ap (λ x. x.number) pq in omega arith))
        (λ o. ⊎_elim (λ (z2 : k < l). let r = i.rising k l p q z2 f.at e (sym s) in omega (arith, r)) (λ (z2 : l < k). omega arith) o)
        (cases_order k l))
        (cases_lt l k)

    place_one : (j : ℕ) (m : Message) → at_place (inbound p.source) j ≡ Some m → 1 ≤ j
    place_one zero m e = absurd cc
    place_one (suc j) m e = omega arith

    go : (j : ℕ) (m : Message) → j < p.number → at_place (inbound p.source) j ≡ Some m → Matches w p.source m
        → (taken h p.source j ≡ true) ⊎ (taken h p.source j ≡ false) → taken h p.source j ≡ true
    go j m l e c (inl t) = t
    go j m l e c (inr t) =
        let b = i.accepted k p f.at in
        let x = i.each p.source j (place_one j m e) (omega (arith, b)) t in
        absurd (clash j x.0 m x.1 l x.2 x.3 x.4 e c)

-- what was shown in a history and one act more was shown in the history, or in that act
shown_push : (h : History) (x : Act × Option Message) (s j : ℕ) → IsShown (h ++ x ∷ []) s j → IsShown h s j ⊎ Shows s j x.0
shown_push [] x s j (inl t) = inr t
shown_push [] x s j (inr t) = absurd t
shown_push (y ∷ h) x s j (inl t) = inl (inl t)
shown_push (y ∷ h) x s j (inr t) = ⊎_elim (λ old. inl (inr old)) (λ new. inr new) (shown_push h x s j t)

-- what comes no later than a packet of the inbox was accepted
pub shows_accepted : (box : Mailbox) (inbound : ℕ → List Message) (h : History) (k : ℕ) (p : packet.PacketValue)
    → slice_get box.packets k ≡ Some p → InboxStands box inbound h → (s j : ℕ) → (p.source ≡ s) × (j ≤ p.number) → j ≤ accepted_from box s
shows_accepted box inbound h k p at i s j shows =
    let l = shows.1 in
    let b : p.number ≤ accepted_from box s = subst (λ z. p.number ≤ accepted_from box z) shows.0 (i.accepted k p at) in
    omega (arith, l, b)

-- other ranks sent more
pub InboxStands-longer : (box : Mailbox) (inbound inbound' : ℕ → List Message) (h : History) → ((s : ℕ) → Grows (inbound s) (inbound' s))
    → InboxStands box inbound h → InboxStands box inbound' h
InboxStands-longer box inbound inbound' h g i =
    record {
      real = λ k p e. rw (g p.source).1 (at_place-append (inbound p.source) (g p.source).0 p.number (carried p) (i.real k p e));
      untaken = i.untaken;
      accepted = i.accepted;
      each = i.each;
      rising = i.rising;
      taken_accepted = i.taken_accepted;
      shown_accepted = i.shown_accepted;
      within = λ s. rw (g s).1 (rw (length-append (inbound s) (g s).0) (omega (arith, i.within s)));
    }

-- an act that takes nothing, and shows only what was accepted
pub InboxStands-noted : (box : Mailbox) (inbound : ℕ → List Message) (h : History) (x : Act × Option Message)
    → ((s j : ℕ) → takes_it s j x.0 ≡ false) → ((s j : ℕ) → Shows s j x.0 → j ≤ accepted_from box s)
    → InboxStands box inbound h → InboxStands box inbound (h ++ x ∷ [])
InboxStands-noted box inbound h x none shows i =
    record {
      real = i.real;
      untaken = λ k p e. same p.source p.number ∙ i.untaken k p e;
      accepted = i.accepted;
      each = λ s j one l t. i.each s j one l (sym (same s j) ∙ t);
      rising = i.rising;
      taken_accepted = λ s j t. i.taken_accepted s j (sym (same s j) ∙ t);
      shown_accepted = λ s j t. ⊎_elim (λ old. i.shown_accepted s j old) (λ new. shows s j new) (shown_push h x s j t);
      within = i.within;
    }
  where
    or_none : (b c : Bool) → c ≡ false → (b || c) ≡ b
    or_none true c e = refl
    or_none false c e = e

    same : (s j : ℕ) → taken (h ++ x ∷ []) s j ≡ taken h s j
    same s j = taken-push h x s j ∙ or_none (taken h s j) (takes_it s j x.0) (none s j)

-- the act that takes the packet at k
pub InboxStands-taken : (box : Mailbox) (inbound : ℕ → List Message) (h : History) (k : ℕ) (p : packet.PacketValue) (o : Option Message)
    → slice_get box.packets k ≡ Some p → InboxStands box inbound h
    → InboxStands (without box k) inbound (h ++ (takes p.source p.number, o) ∷ [])
InboxStands-taken box inbound h k p o at i =
    record {
      real = λ l q e. let r = get-removed box.packets k l q e in i.real r.0 q r.1;
      untaken = λ l q e. still_free l q e;
      accepted = λ l q e. let r = get-removed box.packets k l q e in i.accepted r.0 q r.1;
      each = each;
      rising = rising;
      taken_accepted = λ s j t. was s j (or_cases (taken h s j) (takes_it s j (takes p.source p.number)) (sym (taken-push h _ s j) ∙ t));
      shown_accepted = λ s j t. ⊎_elim (λ old. i.shown_accepted s j old) (λ new. shows_accepted box inbound h k p at i s j new)
          (shown_push h (takes p.source p.number, o) s j t);
      within = i.within;
    }
  where
    was : (s j : ℕ) → (taken h s j ≡ true) ⊎ (takes_it s j (takes p.source p.number) ≡ true) → j ≤ accepted_from box s
    was s j (inl t) = i.taken_accepted s j t
    was s j (inr t) =
        let q = and_parts (eqb p.source s) (eqb p.number j) t in
        let es : p.source ≡ s = eqb-true p.source s q.0 in
        let en : p.number ≡ j = eqb-true p.number j q.1 in
        let b = i.accepted k p at in
        subst (λ z. z ≤ accepted_from box s) en (subst (λ z. p.number ≤ accepted_from box z) es b)

    place : (l : ℕ) (q : packet.PacketValue) → slice_get (remove box.packets k) l ≡ Some q → (l' : ℕ) × (slice_get box.packets l' ≡ Some q) × (l' ≡ k → ⊥)
    place l q e =
        let r = get-removed box.packets k l q e in
        (r.0, r.1, λ z. ⊎_elim (λ x. omega (arith, x.0, x.1, z)) (λ x. omega (arith, x.0, x.1, z)) r.2)

    still_free : (l : ℕ) (q : packet.PacketValue) → slice_get (remove box.packets k) l ≡ Some q
        → taken (h ++ (takes p.source p.number, o) ∷ []) q.source q.number ≡ false
    still_free l q e =
        let r = place l q e in
        ⊎_elim
        (λ t. absurd (⊎_elim
        (λ u. both_ways _ (i.untaken r.0 q r.1) u)
        (λ u. let z = and_parts (eqb p.source q.source) (eqb p.number q.number) u in
        two_numbers box inbound h i k r.0 p q (λ x. r.2 (sym x)) at r.1 (eqb-true _ _ z.0) (eqb-true _ _ z.1))
        (or_cases (taken h q.source q.number) (takes_it q.source q.number (takes p.source p.number)) (sym (taken-push h _ q.source q.number) ∙ t))))
        (λ f. f)
        (cases_Bool (taken (h ++ (takes p.source p.number, o) ∷ []) q.source q.number))

    each : (s j : ℕ) → 1 ≤ j → j ≤ accepted_from box s → taken (h ++ (takes p.source p.number, o) ∷ []) s j ≡ false
        → (l : ℕ) × (q : packet.PacketValue) × (slice_get (remove box.packets k) l ≡ Some q) × (q.source ≡ s) × (q.number ≡ j)
    each s j one lt t =
        let t' : (taken h s j || takes_it s j (takes p.source p.number)) ≡ false = sym (taken-push h (takes p.source p.number, o) s j) ∙ t in
        let parts = or_parts (taken h s j) (takes_it s j (takes p.source p.number)) t' in
        let x = i.each s j one lt parts.0 in
        let ne : x.0 ≡ k → ⊥ = λ z.
        (let pq : p ≡ x.1 = same_element box.packets k x.0 p x.1 (sym z) at x.2 in
        let es : p.source ≡ s = ap (λ y. y.source) pq ∙ x.3 in
        let en : p.number ≡ j = ap (λ y. y.number) pq ∙ x.4 in
        both_ways _ parts.1 (rw (eq-eqb p.source s es, eq-eqb p.number j en) refl)) in
        let y = get-kept box.packets k x.0 x.1 x.2 ne in
        (y.0, x.1, y.1, x.3, x.4)

    rising : (l l' : ℕ) (q q' : packet.PacketValue) → l < l' → slice_get (remove box.packets k) l ≡ Some q → slice_get (remove box.packets k) l' ≡ Some q'
        → q.source ≡ q'.source → q.number < q'.number
    rising l l' q q' lt e e' s =
        let r = get-removed box.packets k l q e in
        let r' = get-removed box.packets k l' q' e' in
        let lt' : r.0 < r'.0 =
        ⊎_elim (λ a. ⊎_elim (λ b. omega (arith, a.0, a.1, b.0, b.1)) (λ b. omega (arith, a.0, a.1, b.0, b.1)) r'.2)
        (λ a. ⊎_elim (λ b. omega (arith, a.0, a.1, b.0, b.1)) (λ b. omega (arith, a.0, a.1, b.0, b.1)) r'.2) r.2 in
        i.rising r.0 r'.0 q q' lt' r.1 r'.1 s
