-- A payload log, as it is saved to, transmits, is asked and is pruned.
use Rattle.std.proofs.Common.{◌≡◌, ℕ, zero, suc, ◌+◌, ◌-◌, ◌<◌, ◌≤◌, ◌⊎◌, inl, inr, Bool, true, false, List, [], ◌∷◌, ◌++◌, Some, length, drop, max}
use Rattle.std.proofs.Common.{refl, sym, ap, subst, ◌∙◌, arith, slice_get, nat_lt, if◌then◌else◌}
use Rattle.std.proofs.lemmas.Bool.{cases_lt, lt-ltb, le-ltb, ltb-true}
use Rattle.std.proofs.lemmas.List.{length_push}
use Rattle.matching.specs.PacketValue as packet
use Rattle.payload_log.specs.Backlog.{BacklogValue, saved, hold, freed, freed_of, asked, pruned, passed, next_of}
use Rattle.rank_machine.specs.Acts.{Message, carried}
use Rattle.crash_free.specs.Runs.{at_place}
use Rattle.bare_world.specs.Stands.{LogStands, packet_of, packets_from}
use Rattle.bare_world.proofs.Lists.Beginnings.{drop_append, drop_beyond, drop_more, packets_push, packets_length, packets_get, get_drop}

-- one message more was sent, and its packet saved
pub LogStands-saved : (r : ℕ) (messages later : List Message) (b : BacklogValue) (p : packet.PacketValue) → p.source ≡ r → p.number ≡ b.sent + 1
    → b.sent ≡ length messages → b.kept ≡ drop b.base (packets_from r 0 messages) → b.held ≡ packets_from r (length messages + 1) later
    → LogStands r (messages ++ carried p ∷ []) later (saved b p)
LogStands-saved r messages later b p source number sent kept held =
    record {
      sent = ap (λ z. z + 1) sent ∙ sym (length_push messages (carried p));
      kept = go (cases_lt b.base p.number);
      held = held ∙ ap
          (λ z. packets_from r z later) (sym (length_push messages (carried p)));
    }
  where
    same : packet_of r (0 + length messages + 1) (carried p) ≡ p
    same = ap (λ z. packet_of z (0 + length messages + 1) (carried p)) (sym source)
        ∙ ap (λ z. packet_of p.source z (carried p)) (let z : 0 + length messages + 1 ≡ p.number = omega (arith, sent, number) in z)

    more : packets_from r 0 (messages ++ carried p ∷ []) ≡ packets_from r 0 messages ++ p ∷ []
    more = packets_push r 0 messages (carried p) ∙ ap (λ z. packets_from r 0 messages ++ z ∷ []) same

    count : length (packets_from r 0 messages) ≡ b.sent
    count = packets_length r 0 messages ∙ sym sent

    go : (b.base < p.number) ⊎ (p.number ≤ b.base)
        → (if nat_lt b.base p.number then b.kept ++ p ∷ [] else b.kept) ≡ drop b.base (packets_from r 0 (messages ++ carried p ∷ []))
    go (inl l) =
        ap (λ c. if c then b.kept ++ p ∷ [] else b.kept) (lt-ltb b.base p.number l)
        ∙ ap (λ z. z ++ p ∷ []) kept ∙ sym (drop_append b.base (packets_from r 0 messages) (p ∷ []) (omega (arith, count, number))) ∙ ap
        (λ z. drop b.base z) (sym more)
    go (inr l) =
        ap (λ c. if c then b.kept ++ p ∷ [] else b.kept) (le-ltb b.base p.number l)
        ∙ kept ∙ drop_beyond b.base (packets_from r 0 messages) (omega (arith, count, number))
        ∙ sym (ap (λ z. drop b.base z) more ∙ drop_beyond b.base (packets_from r 0 messages ++ p ∷ [])
        (rw (length_push (packets_from r 0 messages) p) (omega (arith, count, number))))

-- one message more waits, and its packet is held
pub LogStands-held : (r : ℕ) (messages later : List Message) (b : BacklogValue) (p : packet.PacketValue) → p.source ≡ r → p.number ≡ b.sent + length b.held + 1
    → LogStands r messages later b → LogStands r messages (later ++ carried p ∷ []) (hold b p)
LogStands-held r messages later b p source number s =
    record {
      sent = s.sent;
      kept = s.kept;
      held = ap (λ z. z ++ p ∷ []) s.held ∙ sym
          (packets_push r (length messages) later (carried p) ∙ ap (λ z. packets_from r (length messages) later ++ z ∷ []) same);
    }
  where
    same : packet_of r (length messages + length later + 1) (carried p) ≡ p
    same =
        ap (λ z. packet_of z (length messages + length later + 1) (carried p)) (sym source)
        ∙ ap (λ z. packet_of p.source z (carried p))
        (let e = s.sent in
        let f = ap length s.held ∙ packets_length r (length messages) later in
        let z : length messages + length later + 1 ≡ p.number = omega (arith, e, f, number) in z)

-- the message that waits longest: its packet is held first
pub held_first : (r : ℕ) (messages later : List Message) (b : BacklogValue) (m : Message) → LogStands r messages (m ∷ later) b
    → slice_get b.held 0 ≡ Some (packet_of r (length messages + 1) m)
held_first r messages later b m s = ap (λ z. slice_get z 0) s.held

-- it is released: its packet is saved
pub LogStands-freed : (r : ℕ) (messages later : List Message) (b : BacklogValue) (m : Message) → LogStands r messages (m ∷ later) b
    → LogStands r (messages ++ m ∷ []) later (freed b)
LogStands-freed r messages later b m s =
    subst (λ z. LogStands r (messages ++ m ∷ []) later (freed_of b z)) (sym s.held)
    (LogStands-saved r messages later (record {
      base = b.base;
      sent = b.sent;
      cursor = b.cursor;
      kept = b.kept;
      held = packets_from r
          (length messages + 1) later;
    }) (packet_of r (length messages + 1) m)
    refl (ap (λ z. z + 1) (sym s.sent)) s.sent s.kept refl)

-- the cursor moves on
pub LogStands-passed : (r : ℕ) (messages later : List Message) (b : BacklogValue) → LogStands r messages later b → LogStands r messages later (passed b)
LogStands-passed r messages later b s = record { sent = s.sent; kept = s.kept; held = s.held }

-- or goes back
pub LogStands-asked : (r from : ℕ) (messages later : List Message) (b : BacklogValue) → LogStands r messages later b → LogStands r messages later (asked b from)
LogStands-asked r from messages later b s = record { sent = s.sent; kept = s.kept; held = s.held }

-- packets go
pub LogStands-pruned : (r upto : ℕ) (messages later : List Message) (b : BacklogValue)
    → LogStands r messages later b → LogStands r messages later (pruned b upto)
LogStands-pruned r upto messages later b s = go (nat_lt b.base upto) refl
  where
    go : (c : Bool) → nat_lt b.base upto ≡ c
        → LogStands r messages later
        (if c then (record { base = upto; sent = b.sent; cursor = max b.cursor (upto + 1); kept = drop (upto - b.base) b.kept; held = b.held }) else b)
    go false e = s
    go true e =
        let l : b.base < upto = ltb-true b.base upto e in
        record {
          sent = s.sent;
          kept = ap (λ z. drop (upto - b.base) z) s.kept ∙ drop_more (upto - b.base) b.base (packets_from r 0 messages)
              ∙ (let z : b.base + (upto - b.base) ≡ upto = omega arith in ap (λ k. drop k (packets_from r 0 messages)) z);
          held = s.held;
        }

-- a base is at most what it was, or what the receiver's image has
pub base_pruned : (b : BacklogValue) (upto most : ℕ) → b.base ≤ most → upto ≤ most → (pruned b upto).base ≤ most
base_pruned b upto most l m = go (nat_lt b.base upto)
  where
    go : (c : Bool)
        → (if c then (record { base = upto; sent = b.sent; cursor = max b.cursor (upto + 1); kept = drop (upto - b.base) b.kept; held = b.held })
        else b).base ≤ most
    go false = l
    go true = m

-- what goes next is a message that was sent
pub next_is_real : (r : ℕ) (messages later : List Message) (b : BacklogValue) (p : packet.PacketValue) → LogStands r messages later b → next_of b ≡ Some p
    → (p.source ≡ r) × (at_place messages p.number ≡ Some (carried p))
next_is_real r messages later b p s e =
    let g = packets_get r 0 messages (b.base + (b.cursor - (b.base + 1))) p
    (get_drop b.base (packets_from r 0 messages) (b.cursor - (b.base + 1)) p (subst (λ z. slice_get z (b.cursor - (b.base + 1)) ≡ Some p) s.kept e)) in
    (ap (λ z. z.source) g.2, real (b.base + (b.cursor - (b.base + 1))) g.0 p.number (ap (λ z. z.number) g.2) g.1 ∙ ap Some (sym (ap carried g.2)))
  where
    real : (i : ℕ) (m : Message) (n : ℕ) → n ≡ 0 + i + 1 → slice_get messages i ≡ Some m → at_place messages n ≡ Some m
    real i m zero f h = absurd (omega arith)
    real i m (suc n) f h = (let z : i ≡ n = omega arith in subst (λ j. slice_get messages j ≡ Some m) z h)
