-- For each rank as many packets are held as sends to it wait: so it stays where an event, a line or a send comes to wait,
-- and where a send is released.
use Rattle.std.proofs.Common.{◌≡◌, ℕ, zero, suc, ◌+◌, ◌<◌, ◌⊎◌, inl, inr, if◌then◌else◌, ℤ, List, [], ◌∷◌, ◌++◌}
use Rattle.std.proofs.Common.{length, drop, Some, slice_get, option_and_then, refl, sym, ap, subst, ◌∙◌, arith, slice_set}
use Rattle.std.proofs.lemmas.Bool.{cases_eq, eq-eqb, ne_eqb}
use Rattle.std.proofs.lemmas.List.{get_or-set_same, get_or-set_other, length_push}
use Rattle.matching.specs.PacketValue as packet
use Rattle.event_logger.specs.Sequential.Event.{EventValue}
use Rattle.payload_log.specs.Backlog.{BacklogValue, backlog, new_backlog, hold, freed, freed_of}
use Rattle.rank_node.specs.declared.waiting.Waiting.{Waiting}
use Rattle.rank_node.specs.declared.waiting.Waiting.TheVariants.{Event, Send, Line}
use Rattle.rank_node.specs.Waiting.{Gate, sends_to}
use Rattle.rank_node.specs.Releasing.{effect_of}
use Rattle.rank_node.proofs.Gates.{sends_to_push}

-- for each rank as many packets are held as sends to it wait
abbrev pub Held : List BacklogValue → List Waiting → Type 0
Held log xs = (d : ℕ) → length (backlog log d).held ≡ sends_to d xs

-- ---- what comes to wait

-- an event sends nothing
sends_to_event : (d : ℕ) (xs : List Waiting) (e : EventValue) → sends_to d (xs ++ Event e ∷ []) ≡ sends_to d xs
sends_to_event d xs e = (let z = sends_to_push d xs (Event e) in omega (arith, z))

-- and so does a line
sends_to_line : (d : ℕ) (xs : List Waiting) (clock : ℕ) (value : ℤ) → sends_to d (xs ++ Line clock value ∷ []) ≡ sends_to d xs
sends_to_line d xs clock value = (let z = sends_to_push d xs (Line clock value) in omega (arith, z))

-- so as many packets are held as sends wait, as before
pub held_event : (log : List BacklogValue) (old new : Gate) (e : EventValue) → new ≡ record { waiting = old.waiting ++ Event e ∷ []; stored = old.stored }
    → Held log old.waiting → Held log new.waiting
held_event log old new e more h d = h d ∙ sym (ap (λ (g : Gate). sends_to d g.waiting) more ∙ sends_to_event d old.waiting e)

-- and so it is where a line comes to wait
pub held_line : (log : List BacklogValue) (old new : Gate) (clock : ℕ) (value : ℤ)
    → new ≡ record { waiting = old.waiting ++ Line clock value ∷ []; stored = old.stored }
    → Held log old.waiting → Held log new.waiting
held_line log old new clock value more h d = h d ∙ sym (ap (λ (g : Gate). sends_to d g.waiting) more ∙ sends_to_line d old.waiting clock value)

-- a send waits, and its packet is held
pub held_send : (log : List BacklogValue) (xs : List Waiting) (dest clock : ℕ) (p : packet.PacketValue) → dest < length log
    → Held log xs → Held (slice_set log dest (hold (backlog log dest) p)) (xs ++ Send dest clock ∷ [])
held_send log xs dest clock p below h d = go (cases_eq d dest)
  where
    go : (d ≡ dest) ⊎ (d ≡ dest → ⊥) → length (backlog (slice_set log dest (hold (backlog log dest) p)) d).held ≡ sends_to d (xs ++ Send dest clock ∷ [])
    go (inl e) =
        subst (λ z. length (backlog (slice_set log dest (hold (backlog log dest) p)) z).held ≡ sends_to z (xs ++ Send dest clock ∷ [])) (sym e)
        (ap (λ z. length z.held) (get_or-set_same log dest (hold (backlog log dest) p) new_backlog below)
        ∙ length_push (backlog log dest).held p ∙ ap (λ z. z + 1) (h dest)
        ∙ sym (sends_to_push dest xs (Send dest clock) ∙ ap (λ b. sends_to dest xs + (if b then 1 else 0)) (eq-eqb dest dest refl)))
    go (inr ne) =
        ap (λ z. length z.held) (get_or-set_other log dest d (hold (backlog log dest) p) new_backlog ne) ∙ h d
        ∙ sym (sends_to_push d xs (Send dest clock) ∙ ap (λ b. sends_to d xs + (if b then 1 else 0)) (ne_eqb dest d (λ z. ne (sym z)))
        ∙ (let z : sends_to d xs + 0 ≡ sends_to d xs = omega arith in z))

-- ---- what is released

-- the oldest of what waits is this send
pub first_send : (xs : List Waiting) (dest clock : ℕ) → Some (Send dest clock) ≡ option_and_then effect_of (slice_get xs 0) → xs ≡ Send dest clock ∷ drop 1 xs
first_send [] dest clock e = absurd cc
first_send (Event x ∷ xs) dest clock e = absurd cc
first_send (Send d c ∷ xs) dest clock e = cc
first_send (Line c v ∷ xs) dest clock e = absurd cc

-- where a send waits first a packet is held for its rank
pub held_some : (log : List BacklogValue) (xs : List Waiting) (dest clock : ℕ)
    → Held log xs → xs ≡ Send dest clock ∷ drop 1 xs → 0 < length (backlog log dest).held
held_some log xs dest clock h e =
    (let a = h dest ∙ ap (sends_to dest) e
    ∙ ap (λ b. if b then suc (sends_to dest (drop 1 xs)) else sends_to dest (drop 1 xs)) (eq-eqb dest dest refl) in
    omega (arith, a))

-- a rank for which a packet is held is one of the ranks
pub held_within : (log : List BacklogValue) (dest : ℕ) → 0 < length (backlog log dest).held → dest < length log
held_within [] dest l = absurd (omega (arith, l))
held_within (b ∷ log) zero l = omega arith
held_within (b ∷ log) (suc dest) l = (let z = held_within log dest l in omega (arith, z))

-- a backlog that frees a packet holds one less
freed_less : (b : BacklogValue) (n : ℕ) → length b.held ≡ suc n → length (freed b).held ≡ n
freed_less b n e = go b.held e
  where
    go : (ms : List packet.PacketValue) → length ms ≡ suc n → length (freed_of b ms).held ≡ n
    go [] f = absurd (omega (arith, f))
    go (m ∷ ms) f = (let z : length ms ≡ n = omega (arith, f) in z)

-- the first send is released, and its packet is held no more
pub held_release : (log : List BacklogValue) (xs : List Waiting) (dest clock : ℕ) → dest < length log → Held log xs → xs ≡ Send dest clock ∷ drop 1 xs
    → Held (slice_set log dest (freed (backlog log dest))) (drop 1 xs)
held_release log xs dest clock below h s d = go (cases_eq d dest)
  where
    rest : List Waiting
    rest = drop 1 xs

    go : (d ≡ dest) ⊎ (d ≡ dest → ⊥) → length (backlog (slice_set log dest (freed (backlog log dest))) d).held ≡ sends_to d rest
    go (inl e) =
        subst (λ z. length (backlog (slice_set log dest (freed (backlog log dest))) z).held ≡ sends_to z rest) (sym e)
        (ap (λ z. length z.held) (get_or-set_same log dest (freed (backlog log dest)) new_backlog below)
        ∙ freed_less (backlog log dest) (sends_to dest rest)
        (h dest ∙ ap (sends_to dest) s ∙ ap (λ b. if b then suc (sends_to dest rest) else sends_to dest rest) (eq-eqb dest dest refl)))
    go (inr ne) =
        ap (λ z. length z.held) (get_or-set_other log dest d (freed (backlog log dest)) new_backlog ne) ∙ h d ∙ ap (sends_to d) s
        ∙ ap (λ b. if b then suc (sends_to d rest) else sends_to d rest) (ne_eqb dest d (λ z. ne (sym z)))
