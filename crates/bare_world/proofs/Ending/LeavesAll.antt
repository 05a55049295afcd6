-- Events that leave a world as it was: those that are refused, steps that are blocked or held or come after the end, and packets that aren't
-- accepted.
use Rattle.std.proofs.Common.{◌≡◌, ◌≢◌, ℕ, ◌+◌, ◌==◌, length, ◌⊎◌, inl, inr, Bool, true, false, if◌then◌else◌, ◌&&◌, nat_le, List, [], ◌∷◌, Option, Some, None}
use Rattle.std.proofs.Common.{Result, Ok, Err, refl, sym, ap, subst, ◌∙◌, arith, option_and_then, position, slice_get, slice_set}
use Rattle.std.specs.Prelude.{is_some}
use Rattle.std.proofs.lemmas.Bool.{leb-true, eqb-true}
use Rattle.matching.specs.PacketValue as packet
use Rattle.matching.specs.Inbox.{Mailbox, accepted_from, answer_to, after_arrival, with_packet}
use Rattle.matching.specs.Matching.{matches}
use Rattle.matching.specs.declared.inbox.Accept.TheVariants as accept
use Rattle.matching.specs.declared.selector.Selector.{Selector}
use Rattle.event_logger.specs.Sequential.Event.{EventValue}
use Rattle.event_logger.specs.declared.sequential.kind.Kind.{Kind}
use Rattle.event_logger.specs.declared.sequential.kind.Kind.TheVariants as kind
use Rattle.rank_machine.specs.declared.want.Want.{Want}
use Rattle.rank_machine.specs.declared.want.Want.TheVariants as want
use Rattle.rank_machine.specs.Machine.{MachineValue, machine_want}
use Rattle.rank_node.specs.declared.fault.NodeFault.{NodeFault}
use Rattle.rank_node.specs.declared.fault.NodeFault.TheVariants as fault
use Rattle.rank_node.specs.declared.frame.Frame.{Frame}
use Rattle.rank_node.specs.declared.frame.Frame.TheVariants as frame
use Rattle.rank_node.specs.declared.turn.Turn.{Turn}
use Rattle.rank_node.specs.declared.turn.Turn.TheVariants as turn
use Rattle.rank_node.specs.declared.turn.Arrived.TheVariants as arrived
use Rattle.rank_node.specs.Frames as frames
use Rattle.rank_node.specs.Frames.{arrival_of, after_frame, with_inbox}
use Rattle.rank_node.specs.Waiting.{has_room}
use Rattle.rank_node.specs.Steps.{at_index, found, turn_of, turn_at, after_step, step_at, received, probed, made_send, made_print}
use Rattle.rank_node.specs.Replay.{named, is_now, is_before, named_turn, receive_turn, probe_turn, try_turn, replay_turn_at}
use Rattle.rank_node.specs.Replay.{replayed_at, taken_named, shown_named, tried_named, uses_event, left_after, is_last}
use Rattle.matching.specs.declared.line.Line.{Line}
use Rattle.crash_free.specs.Runs.{Passed}
use Rattle.bare_world.specs.declared.event.WorldEvent.{WorldEvent}
use Rattle.bare_world.specs.declared.event.WorldEvent.TheVariants.{Step, Put, Arrive, Store, Ack, Image, Crash, Restart, Release}
use Rattle.bare_world.specs.declared.reply.Reply.{Reply}
use Rattle.bare_world.specs.declared.reply.Reply.TheVariants as reply
use Rattle.bare_world.specs.World.{Rank, Live, WorldValue}
use Rattle.bare_world.specs.Follows.{Follows, Happens, StepFollows, ReplayFollows, stepped, put_as}
use Rattle.bare_world.specs.Follows.{arrived_as, after_turn, effect_at, lines_after, passed_at, with_rank}
use Rattle.bare_world.specs.Finished.{leaves_all}
use Rattle.bare_world.proofs.Lists.Replaced.{set_same}
use Rattle.bare_world.proofs.Calls.Steps.{unmoved}

-- ---- a turn that moves nothing

-- the machine hasn't moved
abbrev Stays : Turn → Type 0
Stays turn.Moved = ⊥
Stays turn.Blocked = Unit {0}
Stays turn.Held = Unit {0}
Stays turn.Ended = Unit {0}

-- a turn that stays isn't a move
not_moved : (t : Turn) → Stays t → t ≢ turn.Moved
not_moved t s e = subst Stays e s

-- ---- a step at work

-- what was found, by where it stands
found_none : (x : Selector) (ms : List packet.PacketValue) → position (matches x) ms ≡ None → found x ms ≡ None
found_none x ms e = ap (λ o. option_and_then (at_index ms) o) e

-- a rank whose step moves nothing is as it was
step_stays : (v : Rank) (x : Want) (m : MachineValue) → Stays (turn_at v x) → step_at v x m ≡ v
step_stays v want.Internal m s = absurd s
step_stays v (want.Send d c t) m s = go (has_room v.pending) s
  where
    go : (b : Bool) → Stays (if b then turn.Moved else turn.Held) → (if b then made_send v m d c t else v) ≡ v
    go true z = absurd z
    go false z = refl
step_stays v (want.Receive x) m s = go (position (matches x) v.inbox.packets) refl s
  where
    go : (o : Option ℕ) → position (matches x) v.inbox.packets ≡ o → Stays (if is_some o then turn.Moved else turn.Blocked)
        → received v m (found x v.inbox.packets) ≡ v
    go None e z = ap (λ o. received v m o) (found_none x v.inbox.packets e)
    go (Some k) e z = absurd z
step_stays v (want.Probe x) m s = go (position (matches x) v.inbox.packets) refl s
  where
    go : (o : Option ℕ) → position (matches x) v.inbox.packets ≡ o → Stays (if is_some o then turn.Moved else turn.Blocked)
        → probed v m (found x v.inbox.packets) ≡ v
    go None e z = ap (λ o. probed v m o) (found_none x v.inbox.packets e)
    go (Some k) e z = absurd z
step_stays v (want.TryProbe x) m s = absurd s
step_stays v (want.Print z) m s = go (has_room v.pending) s
  where
    go : (b : Bool) → Stays (if b then turn.Moved else turn.Held) → (if b then made_print v m z else v) ≡ v
    go true y = absurd y
    go false y = refl
step_stays v want.Halted m s = refl
step_stays v (want.Faulted k) m s = refl

-- ---- a step of a replay

-- a packet that is named and moves nothing isn't there
named_stays : (x : Selector) (o : Option (ℕ × packet.PacketValue)) (t : Turn) → Stays t → named_turn x o ≡ Ok t → o ≡ None
named_stays x None t s e = refl
named_stays x (Some f) t s e = go (matches x f.1) e
  where
    go : (b : Bool) → (if b then Ok turn.Moved else Err fault.Replay) ≡ Ok t → Some f ≡ None
    go true q = (let z : turn.Moved ≡ t = cc in absurd (subst Stays (sym z) s))
    go false q = absurd cc

-- a move isn't a turn that stays
moves_not : (t : Turn) → Stays t → ◌≡◌ {A = Result Turn NodeFault} (Ok turn.Moved) (Ok t) → ⊥
moves_not t s q = (let z : turn.Moved ≡ t = cc in subst Stays (sym z) s)

-- nor is a refusal
before_not : (b : Bool) (t : Turn) → Stays t → (if b then Ok turn.Moved else Err fault.Replay) ≡ Ok t → ⊥
before_not true t s q = moves_not t s q
before_not false t s q = cc

-- a rank whose replayed step moves nothing is as it was
replay_stays : (v : Rank) (e : EventValue) (x : Want) (t : Turn) (m : MachineValue) → Stays t → replay_turn_at v e x ≡ Ok t → replayed_at v e x m ≡ v
replay_stays v e want.Internal t m s q = absurd (moves_not t s q)
replay_stays v e (want.Send d c y) t m s q = absurd (before_not (is_before v e) t s q)
replay_stays v e (want.Print z) t m s q = absurd (before_not (is_before v e) t s q)
replay_stays v e (want.Receive x) t m s q = go (is_now v e) (named v e) e.kind q
  where
    go : (b : Bool) (o : Option (ℕ × packet.PacketValue)) (k : Kind) → (if b then receive_turn x o k else Err fault.Replay) ≡ Ok t → taken_named v m o ≡ v
    go false o k z = absurd cc
    go true o kind.Reception z = ap (λ y. taken_named v m y) (named_stays x o t s z)
    go true o kind.Hit z = absurd cc
    go true o kind.Miss z = absurd cc
    go true o kind.Misses z = absurd cc
replay_stays v e (want.Probe x) t m s q = go (is_now v e) (named v e) e.kind q
  where
    go : (b : Bool) (o : Option (ℕ × packet.PacketValue)) (k : Kind) → (if b then probe_turn x o k else Err fault.Replay) ≡ Ok t → shown_named v m o ≡ v
    go false o k z = absurd cc
    go true o kind.Hit z = ap (λ y. shown_named v m y) (named_stays x o t s z)
    go true o kind.Reception z = absurd cc
    go true o kind.Miss z = absurd cc
    go true o kind.Misses z = absurd cc
replay_stays v e (want.TryProbe x) t m s q = go (is_now v e) (named v e) e.kind q
  where
    go : (b : Bool) (o : Option (ℕ × packet.PacketValue)) (k : Kind) → (if b then try_turn x o k else Err fault.Replay) ≡ Ok t → tried_named v m o k ≡ v
    go false o k z = absurd cc
    go true o kind.Hit z = ap (λ y. shown_named v m y) (named_stays x o t s z)
    go true o kind.Reception z = absurd cc
    go true o kind.Miss z = absurd (moves_not t s z)
    go true o kind.Misses z = absurd (moves_not t s z)
replay_stays v e want.Halted t m s q = refl
replay_stays v e (want.Faulted k) t m s q = refl

-- and nothing is used of what is left
left_stays : (v : Rank) (x : Want) (t : Turn) (e : EventValue) (rest : List EventValue) → Stays t → left_after v x t e rest ≡ e ∷ rest
left_stays v x t e rest s = ap (λ b. if b && is_last v e then rest else e ∷ rest) (unused x t s)
  where
    unused : (y : Want) (u : Turn) → Stays u → uses_event y u ≡ false
    unused y turn.Moved z = absurd z
    unused want.Internal turn.Blocked z = refl
    unused (want.Send d c k) turn.Blocked z = refl
    unused (want.Receive k) turn.Blocked z = refl
    unused (want.Probe k) turn.Blocked z = refl
    unused (want.TryProbe k) turn.Blocked z = refl
    unused (want.Print k) turn.Blocked z = refl
    unused want.Halted turn.Blocked z = refl
    unused (want.Faulted k) turn.Blocked z = refl
    unused want.Internal turn.Held z = refl
    unused (want.Send d c k) turn.Held z = refl
    unused (want.Receive k) turn.Held z = refl
    unused (want.Probe k) turn.Held z = refl
    unused (want.TryProbe k) turn.Held z = refl
    unused (want.Print k) turn.Held z = refl
    unused want.Halted turn.Held z = refl
    unused (want.Faulted k) turn.Held z = refl
    unused want.Internal turn.Ended z = refl
    unused (want.Send d c k) turn.Ended z = refl
    unused (want.Receive k) turn.Ended z = refl
    unused (want.Probe k) turn.Ended z = refl
    unused (want.TryProbe k) turn.Ended z = refl
    unused (want.Print k) turn.Ended z = refl
    unused want.Halted turn.Ended z = refl
    unused (want.Faulted k) turn.Ended z = refl

-- ---- the world

-- no line is shown
lines_stay : (lines : List Line) (r : ℕ) (v : Rank) (x : Want) (t : Turn) → Stays t → lines_after lines r v x t ≡ lines
lines_stay lines r v want.Internal t s = refl
lines_stay lines r v (want.Send d c k) t s = refl
lines_stay lines r v (want.Receive k) t s = refl
lines_stay lines r v (want.Probe k) t s = refl
lines_stay lines r v (want.TryProbe k) t s = refl
lines_stay lines r v (want.Print k) turn.Moved s = absurd s
lines_stay lines r v (want.Print k) turn.Blocked s = refl
lines_stay lines r v (want.Print k) turn.Held s = refl
lines_stay lines r v (want.Print k) turn.Ended s = refl
lines_stay lines r v want.Halted t s = refl
lines_stay lines r v (want.Faulted k) t s = refl

-- no act passes
run_stays : (C : List Passed) (r c : ℕ) (v : Rank) (x : Want) (t : Turn) → Stays t → passed_at C r c (effect_at v x t) ≡ C
run_stays C r c v x t s = ap (λ o. passed_at C r c o) (sym (unmoved v x t (not_moved t s)))

-- a rank as it was leaves the ranks as they were
turn_stays : (w : WorldValue) (r : ℕ) (u : Live) (t : Turn) (v : Rank) (left : List EventValue) → slice_get w.ranks r ≡ Some (Some u) → Stays t
    → v ≡ u.rank → left ≡ u.left → after_turn w r u t v left ≡ w
turn_stays w r u t v left live s same rest =
    let ranks : slice_set w.ranks r (Some (record { rank = v; left = left })) ≡ w.ranks =
    ap (λ z. slice_set w.ranks r (Some (record { rank = z; left = left }))) same
    ∙ ap (λ z. slice_set w.ranks r (Some (record { rank = u.rank; left = z }))) rest ∙ set_same w.ranks r (Some u) live in
    ap (λ z. record w { ranks = z; lines = lines_after w.lines r u.rank (machine_want u.rank.machine) t; run = passed_at w.run r (u.rank.clock + 1) (effect_at u.rank (machine_want u.rank.machine) t) }) ranks
    ∙ ap (λ z. record w { lines = z; run = passed_at w.run r (u.rank.clock + 1) (effect_at u.rank (machine_want u.rank.machine) t) })
    (lines_stay w.lines r u.rank (machine_want u.rank.machine) t s)
    ∙ ap (λ z. record w { run = z }) (run_stays w.run r (u.rank.clock + 1) u.rank (machine_want u.rank.machine) t s)

-- a step that moves nothing
step_leaves : (w : WorldValue) (r : ℕ) (answer : Reply) (w' : WorldValue) → ((t : Turn) → answer ≡ stepped t → Stays t)
    → StepFollows w r answer w' ⊎ ReplayFollows w r answer w' → w' ≡ w
step_leaves w r answer w' stays (inl f) =
    let s = stays (turn_of f.before.rank) f.answered in
    f.after
    ∙ turn_stays w r f.before (turn_of f.before.rank) (after_step f.before.rank f.machine) [] f.live s
    (step_stays f.before.rank (machine_want f.before.rank.machine) f.machine s) (sym f.running)
step_leaves w r answer w' stays (inr f) =
    let s = stays f.turn f.answered in
    f.after
    ∙ turn_stays w r f.before f.turn _ _ f.live s
    (replay_stays f.before.rank f.event (machine_want f.before.rank.machine) f.turn f.machine s f.turned)
    (left_stays f.before.rank (machine_want f.before.rank.machine) f.turn f.event f.rest s ∙ sym f.replaying)

-- ---- packets that aren't accepted

-- an inbox that answers otherwise than that it accepts is as it was
box_stays : (box : Mailbox) (p : packet.PacketValue) → (answer_to box p ≡ accept.Accepted → ⊥) → after_arrival box p ≡ box
box_stays box p ne = go (nat_le p.number (accepted_from box p.source)) (p.number == accepted_from box p.source + 1) refl refl
  where
    go : (a b : Bool) → nat_le p.number (accepted_from box p.source) ≡ a → (p.number == accepted_from box p.source + 1) ≡ b → after_arrival box p ≡ box
    go a false e f = ap (λ z. if z then with_packet box p else box) f
    go false true e f =
        absurd
        (ne
        (ap (λ z. if z then accept.Repeated else (if p.number == accepted_from box p.source + 1 then accept.Accepted else accept.Gap)) e
        ∙ ap (λ z. if z then accept.Accepted else accept.Gap) f))
    go true true e f =
        absurd
        (let l = leb-true p.number (accepted_from box p.source) e in
        let m = eqb-true p.number (accepted_from box p.source + 1) f in
        omega (arith, l, m))

-- a reply that leaves all isn't that of what was accepted
accepted_not : (answer : Reply) → leaves_all answer ≡ true → ◌≡◌ {A = Option Reply} (Some reply.Accepted) (Some answer) → ⊥
accepted_not answer l e = (let z : reply.Accepted ≡ answer = cc in let q = subst (λ y. leaves_all y ≡ true) (sym z) l in cc)

-- nor of what was noted
noted_not : (answer : Reply) → leaves_all answer ≡ true → ◌≡◌ {A = Option Reply} (Some reply.Noted) (Some answer) → ⊥
noted_not answer l e = (let z : reply.Noted ≡ answer = cc in let q = subst (λ y. leaves_all y ≡ true) (sym z) l in cc)

-- a rank that doesn't accept what arrives is as it was
frame_stays : (v : Rank) (s : ℕ) (x : Frame) (answer : Reply) → leaves_all answer ≡ true → arrived_as (arrival_of v s x) ≡ Some answer → after_frame v s x ≡ v
frame_stays v s (frame.Ask n) answer l e = absurd (noted_not answer l e)
frame_stays v s (frame.Kept n) answer l e = absurd (noted_not answer l e)
frame_stays v s (frame.Data p) answer l e = go (p.source == s) e
  where
    go : (b : Bool) → arrived_as (if b then frames.arrived_as (answer_to v.inbox p) else arrived.Foreign) ≡ Some answer
        → (if b then with_inbox v (after_arrival v.inbox p) else v) ≡ v
    go false q = refl
    go true q =
        ap (λ z. with_inbox v z)
        (box_stays v.inbox p (λ a. accepted_not answer l (sym (ap (λ z. arrived_as (frames.arrived_as z)) a) ∙ q)))

-- ---- any event

-- a step with such a reply moved nothing
stays_of : (t : Turn) → leaves_all (stepped t) ≡ true → Stays t
stays_of turn.Moved e = absurd cc
stays_of turn.Blocked e = tt
stays_of turn.Held e = tt
stays_of turn.Ended e = tt

-- what is put changes a wire
pub put_not : (n : ℕ) (x : Frame) → leaves_all (put_as n x) ≡ true → ⊥
put_not n (frame.Data p) e = cc
put_not n (frame.Ask k) e = cc
put_not n (frame.Kept k) e = cc

-- what happens with such a reply leaves the world as it was
leaves_happens : (w : WorldValue) (event : WorldEvent) (answer : Reply) (w' : WorldValue) → leaves_all answer ≡ true → Happens w event answer w' → w' ≡ w
leaves_happens w (Step r) answer w' l h = step_leaves w r answer w' (λ t e. stays_of t (subst (λ z. leaves_all z ≡ true) e l)) h
leaves_happens w (Put s d) answer w' l f = absurd (put_not (length f.frames) f.frame (subst (λ z. leaves_all z ≡ true) f.answered l))
leaves_happens w (Arrive s d i) answer w' l f =
    f.after
    ∙ ap (λ z. with_rank w d (Some (record { rank = z; left = f.before.left }))) (frame_stays f.before.rank s f.frame answer l f.answered)
    ∙ ap (λ z. record w { ranks = z }) (set_same w.ranks d (Some f.before) f.live)
leaves_happens w (Store r) answer w' l f = absurd (let q = subst (λ z. leaves_all z ≡ true) f.answered l in cc)
leaves_happens w (Ack r) answer w' l f = absurd (let q = subst (λ z. leaves_all z ≡ true) f.answered l in cc)
leaves_happens w (Image r) answer w' l f = absurd (let q = subst (λ z. leaves_all z ≡ true) f.answered l in cc)
leaves_happens w (Crash r) answer w' l f = absurd (let q = subst (λ z. leaves_all z ≡ true) f.answered l in cc)
leaves_happens w (Restart r) answer w' l f = absurd (let q = subst (λ z. leaves_all z ≡ true) f.answered l in cc)
leaves_happens w (Release r) answer w' l f = absurd (let q = subst (λ z. leaves_all z ≡ true) f.answered l in cc)

-- so does one that is refused
pub leaves : (w : WorldValue) (event : WorldEvent) (answer : Reply) (w' : WorldValue) → leaves_all answer ≡ true → Follows w event answer w' → w' ≡ w
leaves w event reply.Refused w' l f = f.1
leaves w event reply.Moved w' l f = leaves_happens w event reply.Moved w' l f
leaves w event reply.Blocked w' l f = leaves_happens w event reply.Blocked w' l f
leaves w event reply.Held w' l f = leaves_happens w event reply.Held w' l f
leaves w event reply.Ended w' l f = leaves_happens w event reply.Ended w' l f
leaves w event (reply.PutData index number) w' l f = leaves_happens w event (reply.PutData index number) w' l f
leaves w event (reply.PutAsk index from) w' l f = leaves_happens w event (reply.PutAsk index from) w' l f
leaves w event (reply.PutKept index upto) w' l f = leaves_happens w event (reply.PutKept index upto) w' l f
leaves w event reply.Accepted w' l f = leaves_happens w event reply.Accepted w' l f
leaves w event reply.Repeated w' l f = leaves_happens w event reply.Repeated w' l f
leaves w event reply.Gap w' l f = leaves_happens w event reply.Gap w' l f
leaves w event reply.Noted w' l f = leaves_happens w event reply.Noted w' l f
leaves w event (reply.Stored count) w' l f = leaves_happens w event (reply.Stored count) w' l f
leaves w event reply.Acked w' l f = leaves_happens w event reply.Acked w' l f
leaves w event reply.Imaged w' l f = leaves_happens w event reply.Imaged w' l f
leaves w event reply.Crashed w' l f = leaves_happens w event reply.Crashed w' l f
leaves w event (reply.Restarted count) w' l f = leaves_happens w event (reply.Restarted count) w' l f
leaves w event (reply.Released clock) w' l f = leaves_happens w event (reply.Released clock) w' l f
