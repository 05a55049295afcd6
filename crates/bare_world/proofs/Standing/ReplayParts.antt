-- What a replay works on: its payload log after a send that is made again, and after any other act, and the acts that are left.
use Rattle.std.proofs.Common.{◌≡◌, ℕ, ℤ, ◌+◌, ◌<◌, ◌≤◌, ◌⊎◌, inl, inr, ◌==◌, List, [], ◌∷◌, ◌++◌, Option, Some}
use Rattle.std.proofs.Common.{None, length, take, drop, refl, sym, ap, subst, ◌∙◌, arith, slice_get, slice_set}
use Rattle.std.proofs.lemmas.Bool.{cases_lt, eq-eqb, ne_eqb}
use Rattle.std.proofs.lemmas.List.{append-nil}
use Rattle.std.proofs.lemmas.Option.{get_or_from_slice_get}
use Rattle.matching.specs.declared.packet.Context.{Context}
use Rattle.matching.specs.PacketValue as packet
use Rattle.payload_log.specs.Backlog.{BacklogValue, backlog, saved, new_backlog}
use Rattle.rank_machine.specs.Wants.{payload}
use Rattle.rank_machine.specs.Acts.{Act, Message, sends, carried}
use Rattle.rank_machine.specs.Machine.{state_of}
use Rattle.rank_node.specs.Steps.{message_of}
use Rattle.crash_free.specs.Runs.{History, sends_from, send_at, cons_if}
use Rattle.crash_free.proofs.Lists.{sends_from-push}
use Rattle.bare_world.specs.World.{Rank}
use Rattle.bare_world.specs.Stands.{LogStands, LogsStand}
use Rattle.bare_world.proofs.Lists.Replaced.{replaced_keeps}
use Rattle.event_logger.specs.Sequential.Event.{EventValue}
use Rattle.bare_world.specs.Rows.{events_from}
use Rattle.bare_world.proofs.Lists.Beginnings.{take_length, drop_beyond}
use Rattle.bare_world.proofs.Standing.PayloadLogs.{LogStands-saved}

-- what the first c acts sent, and a send as the next
sends_next : (h : History) (c d' d : ℕ) (context : Context) (t : ℕ) (items : List ℤ) (o : Option Message) → c ≤ length h
    → sends_from 0 d (take c h ++ (sends d' context t items, o) ∷ [])
    ≡ sends_from 0 d (take c h) ++ cons_if (d' == d) (record { clock = c + 1; context = context; tag = t; items = items }) []
sends_next h c d' d context t items o l =
    sends_from-push 0 d (take c h) (sends d' context t items, o)
    ∙ (let z : 0 + length (take c h) ≡ c = (let e = take_length c h l in omega (arith, e)) in
    ap (λ y. sends_from 0 d (take c h) ++ cons_if (d' == d) (record { clock = y + 1; context = context; tag = t; items = items }) []) z)

-- a send that is made again is saved
pub logs_saved : (r : ℕ) (h : History) (v : Rank) (d : ℕ) (context : Context) (t : ℕ)
    → v.stable.rank ≡ r → v.clock ≤ length h → LogsStand r h v.clock [] v.log
    → (e : ℕ) (b : BacklogValue) → slice_get (slice_set v.log d (saved (backlog v.log d) (message_of v d context t))) e ≡ Some b
    → LogStands r (sends_from 0 e (take v.clock h ++ (sends d context t (payload (state_of v.machine)), None) ∷ [])) [] b
logs_saved r h v d context t number within s =
    replaced_keeps (λ e b. LogStands r (sends_from 0 e (take v.clock h ++ (a, None) ∷ [])) [] b) v.log d (saved (backlog v.log d) p) others own
  where
    p : packet.PacketValue
    p = message_of v d context t

    a : Act
    a = sends d context t (payload (state_of v.machine))

    messages : (e : ℕ) → sends_from 0 e (take v.clock h ++ (a, None) ∷ []) ≡ sends_from 0 e (take v.clock h) ++ cons_if (d == e) (carried p) []
    messages e = sends_next h v.clock d e context t (payload (state_of v.machine)) None within

    others : (e : ℕ) (b : BacklogValue) → (e ≡ d → ⊥) → slice_get v.log e ≡ Some b → LogStands r (sends_from 0 e (take v.clock h ++ (a, None) ∷ [])) [] b
    others e b ne at =
        subst (λ z. LogStands r z [] b) (sym (messages e ∙ ap (λ z. sends_from 0 e (take v.clock h) ++ cons_if z (carried p) [])
        (ne_eqb d e (λ z. ne (sym z))) ∙ append-nil _))
        (s e b at)

    own : (b : BacklogValue) → slice_get v.log d ≡ Some b → LogStands r (sends_from 0 d (take v.clock h ++ (a, None) ∷ [])) [] (saved (backlog v.log d) p)
    own b at =
        let is : backlog v.log d ≡ b = get_or_from_slice_get v.log d b new_backlog at in
        let had : LogStands r (sends_from 0 d (take v.clock h)) [] (backlog v.log d) =
        subst (λ z. LogStands r (sends_from 0 d (take v.clock h)) [] z) (sym is) (s d b at) in
        let none = ap length had.held in
        subst (λ z. LogStands r z [] (saved (backlog v.log d) p))
        (sym (messages d ∙ ap (λ z. sends_from 0 d (take v.clock h) ++ cons_if z (carried p) []) (eq-eqb d d refl)))
        (LogStands-saved r (sends_from 0 d (take v.clock h)) [] (backlog v.log d) p number
        (let z : p.number ≡ (backlog v.log d).sent + 1 = omega (arith, none) in z) had.sent had.kept had.held)

-- an act that sends nothing leaves the log
abbrev pub SendsNone : Act → Type 0
SendsNone a = (c d : ℕ) → send_at c d a [] ≡ []

-- another act leaves the payload log
pub logs_quiet : (r : ℕ) (h : History) (v : Rank) (a : Act) (o : Option Message) → SendsNone a
    → LogsStand r h v.clock [] v.log
    → (e : ℕ) (b : BacklogValue) → slice_get v.log e ≡ Some b → LogStands r (sends_from 0 e (take v.clock h ++ (a, o) ∷ [])) [] b
logs_quiet r h v a o none s e b at =
    subst (λ z. LogStands r z [] b) (sym (sends_from-push 0 e (take v.clock h) (a, o) ∙ ap (λ z. sends_from 0 e (take v.clock h) ++ z) (none _ e)
    ∙ append-nil _)) (s e b at)

-- where events are left behind a clock, acts are
pub not_past : (h : History) (c : ℕ) (e : EventValue) (rest : List EventValue) → e ∷ rest ≡ events_from c (drop c h) → c < length h
not_past h c e rest was = go (cases_lt c (length h))
  where
    go : (c < length h) ⊎ (length h ≤ c) → c < length h
    go (inl l) = l
    go (inr l) = absurd (let q : e ∷ rest ≡ [] = was ∙ ap (λ y. events_from c y) (drop_beyond c h l) in cc)
