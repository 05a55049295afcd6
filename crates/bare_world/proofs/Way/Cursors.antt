-- Cursors of payload logs, and what a receiver has accepted.
use Rattle.std.proofs.Common.{◌≡◌, ℕ, zero, suc, ◌+◌, ◌-◌, ◌<◌, ◌≤◌, ◌⊎◌, inl, inr, Bool, true, false, nat_lt, if◌then◌else◌, max, List, [], ◌∷◌, Some, None}
use Rattle.std.proofs.Common.{length, drop, refl, sym, ap, subst, ◌∙◌, arith, slice_get, slice_set, slice_index}
use Rattle.std.proofs.lemmas.Bool.{cases_lt, cases_eq, eq-eqb, ne_eqb}
use Rattle.matching.specs.PacketValue as packet
use Rattle.matching.specs.Inbox.{Mailbox, accepted_from, after_arrival, with_packet}
use Rattle.payload_log.specs.Backlog.{BacklogValue, next_of, asked, pruned}
use Rattle.rank_machine.specs.Acts.{Message}
use Rattle.bare_world.specs.Stands.{packets_from, LogStands}
use Rattle.bare_world.proofs.Lists.Beginnings.{packets_get, packets_length, get_drop}

-- an ask for a message brings the cursor to it, or as near as what is kept allows
pub asked_reaches : (b : BacklogValue) (from a : ℕ) → b.base ≤ a → from ≤ a + 1 → (asked b from).cursor ≤ a + 1
asked_reaches b from a l m = omega (arith, l, m)

-- another ask brings it no further up
pub asked_lowers : (b : BacklogValue) (from a : ℕ) → b.base ≤ a → b.cursor ≤ a + 1 → (asked b from).cursor ≤ a + 1
asked_lowers b from a l m = omega (arith, l, m)

-- a cursor that stands no further than one past what was accepted stays so when packets up to there go
pub pruned_reaches : (b : BacklogValue) (upto a : ℕ) → b.cursor ≤ a + 1 → upto ≤ a → (pruned b upto).cursor ≤ a + 1
pruned_reaches b upto a l m = go (nat_lt b.base upto)
  where
    go : (c : Bool) → (if c then record b { base = upto; cursor = max b.cursor (upto + 1); kept = drop (upto - b.base) b.kept } else b).cursor ≤ a + 1
    go true = omega (arith, l, m)
    go false = l

-- the next packet has the cursor's number
pub next_number : (r : ℕ) (messages later : List Message) (b : BacklogValue) (p : packet.PacketValue) → LogStands r messages later b → b.base < b.cursor
    → next_of b ≡ Some p → p.number ≡ b.cursor
next_number r messages later b p s above e =
    let g = packets_get r 0 messages (b.base + (b.cursor - (b.base + 1))) p
    (get_drop b.base (packets_from r 0 messages) (b.cursor - (b.base + 1)) p (subst (λ z. slice_get z (b.cursor - (b.base + 1)) ≡ Some p) s.kept e)) in
    let n : p.number ≡ 0 + (b.base + (b.cursor - (b.base + 1))) + 1 = ap (λ z. z.number) g.2 in
    omega (arith, n, above)

-- where an index has no element, the list ends at it or before
get_none : {A : Type 0} (xs : List A) (k : ℕ) → slice_get xs k ≡ None → length xs ≤ k
get_none [] k e = omega arith
get_none (x ∷ xs) zero e = absurd cc
get_none (x ∷ xs) (suc k) e = (let z = get_none xs k e in omega (arith, z))

-- what is left, with as many as were dropped, is no less than the whole list
drop_length : {A : Type 0} (k : ℕ) (xs : List A) → length xs ≤ length (drop k xs) + k
drop_length zero [] = omega arith
drop_length (suc k) [] = omega arith
drop_length zero (x ∷ xs) = omega arith
drop_length (suc k) (x ∷ xs) = (let z = drop_length k xs in omega (arith, z))

-- where nothing goes next, a receiver that missed nothing has accepted all
pub nothing_next : (r a : ℕ) (messages later : List Message) (b : BacklogValue) → LogStands r messages later b → next_of b ≡ None → b.base < b.cursor
    → b.base ≤ a → b.cursor ≤ a + 1 → b.sent ≤ a
nothing_next r a messages later b s e above covered near =
    let x : length b.kept ≤ b.cursor - (b.base + 1) = get_none b.kept (b.cursor - (b.base + 1)) e in
    let y : length (packets_from r 0 messages) ≤ length (drop b.base (packets_from r 0 messages)) + b.base = drop_length b.base (packets_from r 0 messages) in
    let z : length b.kept ≡ length (drop b.base (packets_from r 0 messages)) = ap length s.kept in
    let n : length (packets_from r 0 messages) ≡ length messages = packets_length r 0 messages in
    let c : b.sent ≡ length messages = s.sent in
    omega (arith, x, y, z, n, c, above, covered, near)

-- ---- a packet that arrives

-- what was set at an index within the list is there
index_set : (xs : List ℕ) (i y : ℕ) → i < length xs → slice_index (slice_set xs i y) i ≡ y
index_set [] i y l = absurd (omega arith)
index_set (x ∷ xs) zero y l = refl
index_set (x ∷ xs) (suc i) y l = index_set xs i y (omega arith)

-- after the packet of the cursor's number has arrived it is accepted, where no message was passed by
pub arrival_reaches : (box : Mailbox) (p : packet.PacketValue) (s c : ℕ) → p.source ≡ s → p.number ≡ c → s < length box.accepted → c ≤ accepted_from box s + 1
    → c ≤ accepted_from (after_arrival box p) s
arrival_reaches box p s c source number within near = go (cases_eq p.number (accepted_from box p.source + 1))
  where
    go : (p.number ≡ accepted_from box p.source + 1) ⊎ (p.number ≡ accepted_from box p.source + 1 → ⊥) → c ≤ accepted_from (after_arrival box p) s
    go (inl e) =
        let is : after_arrival box p ≡ with_packet box p =
        ap (λ b. if b then with_packet box p else box) (eq-eqb p.number (accepted_from box p.source + 1) e) in
        let now : accepted_from (with_packet box p) s ≡ p.number =
        ap (λ z. slice_index (slice_set box.accepted z p.number) s) source ∙ index_set box.accepted s p.number within in
        let all : accepted_from (after_arrival box p) s ≡ p.number = ap (λ z. accepted_from z s) is ∙ now in
        omega (arith, all, number)
    go (inr ne) =
        let is : accepted_from (after_arrival box p) s ≡ accepted_from box s =
        ap (λ b. accepted_from (if b then with_packet box p else box) s) (ne_eqb p.number (accepted_from box p.source + 1) ne) in
        let here : accepted_from box p.source ≡ accepted_from box s = ap (λ z. accepted_from box z) source in
        go2 (cases_eq c (accepted_from box s + 1)) is here
      where
        go2 : (c ≡ accepted_from box s + 1) ⊎ (c ≡ accepted_from box s + 1 → ⊥) → accepted_from (after_arrival box p) s ≡ accepted_from box s
            → accepted_from box p.source ≡ accepted_from box s → c ≤ accepted_from (after_arrival box p) s
        go2 (inl e) is here = absurd (ne (number ∙ e ∙ ap (λ z. z + 1) (sym here)))
        go2 (inr differs) is here = go3 (cases_lt (accepted_from box s) c) is
          where
            go3 : (accepted_from box s < c) ⊎ (c ≤ accepted_from box s) → accepted_from (after_arrival box p) s ≡ accepted_from box s
                → c ≤ accepted_from (after_arrival box p) s
            go3 (inl l) is = absurd (differs (omega (arith, l, near)))
            go3 (inr l) is = omega (arith, l, is)
