-- What an inbox stands for after a packet arrives.
use Rattle.std.proofs.Common.{◌≡◌, ℕ, zero, suc, ◌+◌, ◌<◌, ◌≤◌, ◌⊎◌, inl, inr, ⊎_elim, Bool, true, false, ◌==◌, List, [], ◌∷◌, ◌++◌, Some, length}
use Rattle.std.proofs.Common.{refl, sym, ap, subst, ◌∙◌, arith, slice_get, if◌then◌else◌}
use Rattle.std.proofs.lemmas.Bool.{cases_eq, cases_lt, cases_Bool, eqb-true}
use Rattle.std.proofs.lemmas.List.{get_or-set_same, get_or-set_other, length-set}
use Rattle.std.proofs.lemmas.Option.{slice_get_within}
use Rattle.matching.specs.PacketValue as packet
use Rattle.matching.specs.Inbox.{Mailbox, accepted_from, with_packet, after_arrival}
use Rattle.rank_machine.specs.Acts.{Message, carried}
use Rattle.rank_machine.proofs.CollectiveParts.{longer_at}
use Rattle.crash_free.specs.Runs.{History, at_place, taken}
use Rattle.crash_free.proofs.Lists.{push_cases}
use Rattle.bare_world.specs.Stands.{InboxStands}
use Rattle.bare_world.proofs.Lists.Places.{get_last}

-- a place where a message stands is at most the number of messages: places count from 1
place_within : (xs : List Message) (j : ℕ) (m : Message) → at_place xs j ≡ Some m → j ≤ length xs
place_within xs zero m e = absurd cc
place_within xs (suc j) m e = let l = slice_get_within xs j m e in omega (arith, l)

-- a packet with the next number is accepted
InboxStands-accepted : (box : Mailbox) (inbound : ℕ → List Message) (h : History) (p : packet.PacketValue)
    → p.source < length box.accepted → p.number ≡ accepted_from box p.source + 1 → at_place (inbound p.source) p.number ≡ Some (carried p)
    → InboxStands box inbound h → InboxStands (with_packet box p) inbound h
InboxStands-accepted box inbound h p within next_one real i =
    record {
      real =
          λ k q e. ⊎_elim (λ old. i.real k q old)
          (λ new. subst (λ z. at_place (inbound z.source) z.number ≡ Some (carried z)) (sym new.1) real)
          (push_cases box.packets p k q e);
      untaken =
          λ k q e. ⊎_elim (λ old. i.untaken k q old) (λ new. subst (λ z. taken h z.source z.number ≡ false) (sym new.1) fresh) (push_cases box.packets p k q e);
      accepted =
          λ k q e. ⊎_elim (λ old. more q.source q.number (i.accepted k q old))
          (λ new. subst (λ z. z.number ≤ accepted_from (with_packet box p) z.source) (sym new.1) last)
          (push_cases box.packets p k q e);
      each = λ s j one l t. each s j one t (was s j l);
      rising = λ k l q q' lt e e' s. rising k l q q' lt s (push_cases box.packets p k q e) (push_cases box.packets p l q' e');
      taken_accepted = λ s j t. more s j (i.taken_accepted s j t);
      shown_accepted = λ s j t. more s j (i.shown_accepted s j t);
      within = λ s. holds s (cases_eq s p.source);
    }
  where
    now : accepted_from (with_packet box p) p.source ≡ p.number
    now = get_or-set_same box.accepted p.source p.number 0 within

    other : (s : ℕ) → (s ≡ p.source → ⊥) → accepted_from (with_packet box p) s ≡ accepted_from box s
    other s ne = get_or-set_other box.accepted p.source s p.number 0 ne

    more : (s j : ℕ) → j ≤ accepted_from box s → j ≤ accepted_from (with_packet box p) s
    more s j l = go (cases_eq s p.source)
      where
        go : (s ≡ p.source) ⊎ (s ≡ p.source → ⊥) → j ≤ accepted_from (with_packet box p) s
        go (inr ne) = rw (other s ne) l
        go (inl e) =
            let l' : j ≤ accepted_from box p.source = subst (λ z. j ≤ accepted_from box z) e l in
            subst (λ z. j ≤ accepted_from (with_packet box p) z) (sym e) (rw now (omega (arith, next_one)))

    last : p.number ≤ accepted_from (with_packet box p) p.source
    last = rw now (omega arith)

    fresh : taken h p.source p.number ≡ false
    fresh = ⊎_elim (λ t. let b = i.taken_accepted p.source p.number t in absurd (omega (arith, b, next_one))) (λ f. f) (cases_Bool (taken h p.source p.number))

    was : (s j : ℕ) → j ≤ accepted_from (with_packet box p) s → (j ≤ accepted_from box s) ⊎ ((s ≡ p.source) × (j ≡ p.number))
    was s j l = go (cases_eq s p.source)
      where
        go : (s ≡ p.source) ⊎ (s ≡ p.source → ⊥) → (j ≤ accepted_from box s) ⊎ ((s ≡ p.source) × (j ≡ p.number))
        go (inr ne) = inl (rw (other s ne) at l)
        go (inl e) =
            let l' : j ≤ p.number = rw now at (subst (λ z. j ≤ accepted_from (with_packet box p) z) e l) in
            ⊎_elim
            (λ (lt : j < p.number). inl (subst (λ z. j ≤ accepted_from box z) (sym e) (omega (arith, next_one))))
            (λ (ge : p.number ≤ j). inr (e, omega arith))
            (cases_lt j p.number)

    each : (s j : ℕ) → 1 ≤ j → taken h s j ≡ false → (j ≤ accepted_from box s) ⊎ ((s ≡ p.source) × (j ≡ p.number))
        → (k : ℕ) × (q : packet.PacketValue) × (slice_get (box.packets ++ p ∷ []) k ≡ Some q) × (q.source ≡ s) × (q.number ≡ j)
    each s j one t (inl l) = let x = i.each s j one l t in (x.0, x.1, longer_at box.packets (p ∷ []) x.0 x.1 x.2, x.3, x.4)
    each s j one t (inr e) = (length box.packets, p, get_last box.packets p, sym e.0, sym e.1)

    rising : (k l : ℕ) (q q' : packet.PacketValue) → k < l → q.source ≡ q'.source → (slice_get box.packets k ≡ Some q) ⊎ ((k ≡ length box.packets) × (q ≡ p))
        → (slice_get box.packets l ≡ Some q') ⊎ ((l ≡ length box.packets) × (q' ≡ p)) → q.number < q'.number
    rising k l q q' lt s (inl e) (inl e') = i.rising k l q q' lt e e' s
    rising k l q q' lt s (inl e) (inr e') =
        let b = i.accepted k q e in
        let b' : q.number ≤ accepted_from box p.source = subst (λ z. q.number ≤ accepted_from box z) (s ∙ ap (λ z. z.source) e'.1) b in
        let n : q'.number ≡ p.number = ap (λ z. z.number) e'.1 in
        omega (arith, next_one)
    rising k l q q' lt s (inr e) (inl e') = let w = slice_get_within box.packets l q' e' in let z = e.0 in absurd (omega (arith, w))
    rising k l q q' lt s (inr e) (inr e') = let z = e.0 in let z' = e'.0 in absurd (omega arith)

    holds : (s : ℕ) → (s ≡ p.source) ⊎ (s ≡ p.source → ⊥) → accepted_from (with_packet box p) s ≤ length (inbound s)
    holds s (inr ne) = rw (other s ne) (i.within s)
    holds s (inl e) =
        let w = place_within (inbound p.source) p.number (carried p) real in
        subst (λ z. accepted_from (with_packet box p) z ≤ length (inbound z)) (sym e) (rw now w)

-- a packet arrives
pub InboxStands-arrived : (box : Mailbox) (inbound : ℕ → List Message) (h : History) (p : packet.PacketValue)
    → p.source < length box.accepted → at_place (inbound p.source) p.number ≡ Some (carried p)
    → InboxStands box inbound h → InboxStands (after_arrival box p) inbound h
InboxStands-arrived box inbound h p within real i = go (p.number == accepted_from box p.source + 1) (λ e. eqb-true p.number (accepted_from box p.source + 1) e)
  where
    go : (b : Bool) → (b ≡ true → p.number ≡ accepted_from box p.source + 1) → InboxStands (if b then with_packet box p else box) inbound h
    go true e = InboxStands-accepted box inbound h p within (e refl) real i
    go false e = i

-- the count of sources stays
pub after_arrival_counts : (box : Mailbox) (p : packet.PacketValue) → length (after_arrival box p).accepted ≡ length box.accepted
after_arrival_counts box p = go (p.number == accepted_from box p.source + 1)
  where
    go : (b : Bool) → length (if b then with_packet box p else box).accepted ≡ length box.accepted
    go true = length-set box.accepted p.source p.number
    go false = refl
