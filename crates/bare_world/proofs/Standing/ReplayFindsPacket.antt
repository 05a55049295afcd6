-- The packet that an event names, as a replay finds it, and what the replay's step comes to then.
use Rattle.std.proofs.Common.{◌≡◌, ℕ, ◌+◌, true, ◌&&◌, ◌==◌, nat_le, if◌then◌else◌, List, Option, Some, None, Err, refl, sym, ap, subst, ◌∙◌, arith}
use Rattle.std.proofs.Common.{slice_get, position, option_and_then}
use Rattle.std.proofs.lemmas.Bool.{le-leb, eqb-true, and_parts}
use Rattle.std.proofs.lemmas.List.Quantifiers.{position-Some}
use Rattle.std.proofs.lemmas.Option.{get_or_from_slice_get}
use Rattle.matching.specs.declared.selector.Selector.{Selector}
use Rattle.matching.specs.PacketValue as packet
use Rattle.matching.specs.Matching.{matches, is_named}
use Rattle.matching.specs.Inbox.{Mailbox}
use Rattle.event_logger.specs.Sequential.Event.{EventValue, event_of, first_clock}
use Rattle.event_logger.proofs.SequentialLaws.RowLaws.{first_low}
use Rattle.event_logger.specs.declared.sequential.kind.Kind.{Kind}
use Rattle.event_logger.specs.declared.sequential.kind.Kind.TheVariants as kind
use Rattle.rank_machine.specs.declared.want.Want.TheVariants as want
use Rattle.rank_machine.specs.Acts.{Message, carried, Matches}
use Rattle.rank_node.specs.declared.fault.NodeFault.TheVariants as fault
use Rattle.rank_node.specs.Replay.{named, is_now, replay_turn_at, named_turn, receive_turn, probe_turn, try_turn}
use Rattle.rank_node.specs.Steps.{at_index}
use Rattle.crash_free.specs.Runs.{Passed, History, at_place, history, sent}
use Rattle.crash_free.proofs.Clocks.{one_clock}
use Rattle.bare_world.specs.World.{Rank}
use Rattle.bare_world.specs.Stands.{InboxStands}
use Rattle.bare_world.proofs.Standing.Inboxes.{matches_if_named}

-- what an event names
named_parts : (source clock : ℕ) (p : packet.PacketValue) → is_named source clock p ≡ true → (p.source ≡ source) × (p.clock ≡ clock)
named_parts source clock p e = (let x = and_parts (p.source == source) (p.clock == clock) e in (eqb-true p.source source x.0, eqb-true p.clock clock x.1))

-- in an inbox that stands, the packet of this source and clock is the message of that clock, with its place
pub record IsOf (s j : ℕ) (m : Message) (p : packet.PacketValue) : Type 0 where
  pub source : p.source ≡ s
  pub number : p.number ≡ j
  pub message : carried p ≡ m

-- a source and a clock name one message
one_message : (C : List Passed) (r : ℕ) (box : Mailbox) (acts : History) (i s j : ℕ) (m : Message) (p : packet.PacketValue)
    → InboxStands box (λ q. sent C q r) acts → slice_get box.packets i ≡ Some p → p.source ≡ s → p.clock ≡ m.clock → at_place (sent C s r) j ≡ Some m
    → IsOf s j m p
one_message C r box acts i s j m p stands at source clock there =
    let real : at_place (sent C s r) p.number ≡ Some (carried p) = subst (λ z. at_place (sent C z r) p.number ≡ Some (carried p)) source (stands.real i p at) in
    let same : p.number ≡ j = one_clock 0 r (history C s) p.number j (carried p) m real there clock in
    let both : Some (carried p) ≡ Some m = sym real ∙ ap (λ z. at_place (sent C s r) z) same ∙ there in
    record { source = source; number = same; message = cc }

-- the packet that was found is in the inbox, and is the one that the event names
named_is : (v : Rank) (e : EventValue) (i : ℕ) (p : packet.PacketValue) → named v e ≡ Some (i, p)
    → (slice_get v.inbox.packets i ≡ Some p) × (p.source ≡ e.sender) × (p.clock ≡ e.sender_clock)
named_is v e i p is = go (position (is_named e.sender e.sender_clock) v.inbox.packets) refl is
  where
    at_it : (k : ℕ) (o : Option packet.PacketValue) → slice_get v.inbox.packets k ≡ o
        → position (is_named e.sender e.sender_clock) v.inbox.packets ≡ Some k
        → option_and_then {U = ℕ × packet.PacketValue} (λ q. Some (k, q)) o ≡ Some (i, p)
        → (slice_get v.inbox.packets i ≡ Some p) × (p.source ≡ e.sender) × (p.clock ≡ e.sender_clock)
    at_it k None f g h = absurd cc
    at_it k (Some q) f g h =
        let both : ◌≡◌ {A = ℕ × packet.PacketValue} (k, q) (i, p) = cc in
        let ek : k ≡ i = ap (λ z. z.0) both in
        let eq : q ≡ p = ap (λ z. z.1) both in
        let there : slice_get v.inbox.packets k ≡ Some p = f ∙ ap Some eq in
        let first = position-Some (is_named e.sender e.sender_clock) v.inbox.packets k p g in
        let parts = named_parts e.sender e.sender_clock p
        (subst (λ z. is_named e.sender e.sender_clock z ≡ true) (get_or_from_slice_get v.inbox.packets k p p there) first.1) in
        (subst (λ z. slice_get v.inbox.packets z ≡ Some p) ek there, parts.0, parts.1)

    go : (o : Option ℕ) → position (is_named e.sender e.sender_clock) v.inbox.packets ≡ o
        → option_and_then (at_index v.inbox.packets) o ≡ Some (i, p)
        → (slice_get v.inbox.packets i ≡ Some p) × (p.source ≡ e.sender) × (p.clock ≡ e.sender_clock)
    go None f h = absurd cc
    go (Some k) f h = at_it k (slice_get v.inbox.packets k) refl f h

-- it carries the message that is at the act's place
pub packet_is : (C : List Passed) (r : ℕ) {acts : History} (v : Rank) (e : EventValue) (i source place : ℕ) (m : Message) (p : packet.PacketValue) (k : Kind)
    → InboxStands v.inbox (λ q. sent C q r) acts → named v e ≡ Some (i, p) → e ≡ event_of k source m.clock (v.clock + 1)
    → at_place (sent C source r) place ≡ Some m → (slice_get v.inbox.packets i ≡ Some p) × IsOf source place m p
packet_is C r {acts} v e i source place m p k stands f ee there =
    let x = named_is v e i p f in (
      x.0,
      one_message C r v.inbox acts i source place m p stands x.0 (x.1 ∙ ap (λ z. z.sender) ee) (x.2 ∙ ap (λ z. z.sender_clock) ee) there,
    )

-- and so matches what the act awaits
pub names_it : (selector : Selector) (source place : ℕ) (m : Message) (p : packet.PacketValue) → IsOf source place m p → Matches selector source m
    → matches selector p ≡ true
names_it selector source place m p is fits =
    matches_if_named selector p (subst (λ z. Matches selector z (carried p)) (sym is.source) (subst (λ z. Matches selector source z) (sym is.message) fits))

-- ---- what the step comes to

-- the next act is one of the event's
pub is_now_true : (v : Rank) (e : EventValue) (k : Kind) (source clock : ℕ) → e ≡ event_of k source clock (v.clock + 1) → is_now v e ≡ true
is_now_true v e k source clock ee =
    ap (λ z. is_now v z) ee
    ∙ ap (λ b. b && nat_le (v.clock + 1) (v.clock + 1))
    (le-leb (first_clock (event_of k source clock (v.clock + 1))) (v.clock + 1) (first_low k clock (v.clock + 1)))
    ∙ le-leb (v.clock + 1) (v.clock + 1) (omega arith)

-- a receive goes by what was found of a reception
pub receive_turned : (v : Rank) (e : EventValue) (selector : Selector) (source clock : ℕ) (o : Option (ℕ × packet.PacketValue))
    → e ≡ event_of kind.Reception source clock (v.clock + 1) → named v e ≡ o → replay_turn_at v e (want.Receive selector) ≡ named_turn selector o
receive_turned v e selector source clock o ee eo =
    ap (λ b. if b then receive_turn selector (named v e) e.kind else Err fault.Replay) (is_now_true v e kind.Reception source clock ee)
    ∙ ap (λ k. receive_turn selector (named v e) k) (ap (λ z. z.kind) ee) ∙ ap (λ z. named_turn selector z) eo

-- a blocking probe by what was found of a hit
pub probe_turned : (v : Rank) (e : EventValue) (selector : Selector) (source clock : ℕ) (o : Option (ℕ × packet.PacketValue))
    → e ≡ event_of kind.Hit source clock (v.clock + 1) → named v e ≡ o → replay_turn_at v e (want.Probe selector) ≡ named_turn selector o
probe_turned v e selector source clock o ee eo =
    ap (λ b. if b then probe_turn selector (named v e) e.kind else Err fault.Replay) (is_now_true v e kind.Hit source clock ee)
    ∙ ap (λ k. probe_turn selector (named v e) k) (ap (λ z. z.kind) ee) ∙ ap (λ z. named_turn selector z) eo

-- so does one that doesn't wait
pub try_turned : (v : Rank) (e : EventValue) (selector : Selector) (source clock : ℕ) (o : Option (ℕ × packet.PacketValue))
    → e ≡ event_of kind.Hit source clock (v.clock + 1) → named v e ≡ o → replay_turn_at v e (want.TryProbe selector) ≡ named_turn selector o
try_turned v e selector source clock o ee eo =
    ap (λ b. if b then try_turn selector (named v e) e.kind else Err fault.Replay) (is_now_true v e kind.Hit source clock ee)
    ∙ ap (λ k. try_turn selector (named v e) k) (ap (λ z. z.kind) ee) ∙ ap (λ z. named_turn selector z) eo
