-- Worlds that are alike stay so under the same events of the way: a step fixes the machine, and no call looks at a shelf but
-- by its image, or at the logger's history.
use Rattle.std.proofs.Common.{◌≡◌, ℕ, ℤ, Bool, true, false, ◌==◌, if◌then◌else◌, List, MatchBool}
use Rattle.std.proofs.Common.{Option, Some, None, refl, sym, ap, ◌∙◌, position}
use Rattle.checkpoint.specs.declared.memory_shelf.MemoryShelf.{MemoryShelf}
use Rattle.matching.specs.declared.packet.Context.{Context}
use Rattle.matching.specs.PacketValue as packet
use Rattle.matching.specs.Inbox.{after_arrival}
use Rattle.matching.specs.Matching.{matches}
use Rattle.event_logger.specs.Sequential.Event.{EventValue}
use Rattle.event_logger.specs.declared.sequential.kind.Kind.{Kind}
use Rattle.event_logger.specs.declared.sequential.kind.Kind.TheVariants as kind
use Rattle.rank_machine.specs.declared.want.Want.{Want}
use Rattle.rank_machine.specs.declared.want.Want.TheVariants as want
use Rattle.rank_machine.specs.Wants.{payload}
use Rattle.rank_machine.specs.Acts.{Act, sends, prints, Makes}
use Rattle.rank_machine.specs.Machine.{MachineValue, state_of, machine_want, GoesOn, received_at}
use Rattle.rank_machine.proofs.Making.{makes_sent, makes_printed}
use Rattle.rank_node.specs.declared.frame.Frame.{Frame}
use Rattle.rank_node.specs.declared.frame.Frame.TheVariants as frame
use Rattle.rank_node.specs.declared.turn.Turn.{Turn}
use Rattle.rank_node.specs.declared.turn.Turn.TheVariants as turn
use Rattle.rank_node.specs.Waiting.{has_room, is_settled}
use Rattle.rank_node.specs.Frames.{sent_off, after_frame, with_inbox}
use Rattle.rank_node.specs.Replay.{named, replayed_at, replay_turn_at, ReplayStepAt, taken_named, shown_named, tried_named, TriesNamed}
use Rattle.rank_node.specs.Steps.{found, turn_at, refusal_at, MachineStepAt, step_at, after_send, after_hold, after_print, after_wait, made_send}
use Rattle.rank_node.specs.Steps.{made_print, try_refusal}
use Rattle.rank_node.specs.Steps.{received, probed, tried, DidAct, Took, WasShown, Missed, TakesFound, IsShownFound, TriesFound}
use Rattle.matching.specs.declared.line.Line.{Line}
use Rattle.bare_world.specs.World.{Rank}
use Rattle.bare_world.specs.Follows.{effect_at, lines_after}
use Rattle.bare_world.specs.Driven.{on_shelf}

-- ---- a step fixes the machine

-- a machine is its program, its position, its store and its fault
same_machine : (m n : MachineValue) → n.program ≡ m.program → n.position ≡ m.position → n.store ≡ m.store → n.fault ≡ m.fault → n ≡ m
same_machine m n p q s f =
    ap (λ z. record { program = z; position = n.position; store = n.store; fault = n.fault }) p
    ∙ ap (λ z. record { program = m.program; position = z; store = n.store; fault = n.fault }) q
    ∙ ap (λ z. record { program = m.program; position = m.position; store = z; fault = n.fault }) s
    ∙ ap (λ z. record { program = m.program; position = m.position; store = m.store; fault = z }) f

-- a machine is told by its program, its position and its state
machine_is : (m n : MachineValue) → n.program ≡ m.program → n.position ≡ m.position → state_of n ≡ state_of m → n ≡ m
machine_is m n program position state = same_machine m n program position (ap (λ z. z.store) state) (ap (λ z. z.fault) state)

-- a machine has one step of its own
goes_one : (v m n : MachineValue) → GoesOn v m → GoesOn v n → n ≡ m
goes_one v m n f g = same_machine m n (g.program ∙ sym f.program) (g.position ∙ sym f.position) (g.store ∙ sym f.store) (g.fault ∙ sym f.fault)

-- an act without a message has one machine after it
did_one : (v m n : MachineValue) (a : Act) → Makes (state_of v) a None → DidAct v m → DidAct v n → n ≡ m
did_one v m n a makes f g =
    machine_is m n (g.stays.program ∙ sym f.stays.program) (g.position ∙ sym f.position) (g.state a None makes ∙ sym (f.state a None makes))

-- one machine comes of taking a packet
took_one : (p : packet.PacketValue) (v m n : MachineValue) → Took p v m → Took p v n → n ≡ m
took_one p v m n f g =
    let state : state_of n ≡ state_of m = g.state 0 ∙ sym (f.state 0) in
    machine_is m n (g.stays.program ∙ sym f.stays.program) (g.position ∙ ap (λ z. received_at v z.fault) state ∙ sym f.position) state

-- one machine comes of being shown a packet
shown_one : (p : packet.PacketValue) (v m n : MachineValue) → WasShown p v m → WasShown p v n → n ≡ m
shown_one p v m n f g = machine_is m n (g.stays.program ∙ sym f.stays.program) (g.position ∙ sym f.position) (g.state 0 ∙ sym (f.state 0))

-- one machine comes of a miss
missed_one : (v m n : MachineValue) → Missed v m → Missed v n → n ≡ m
missed_one v m n f g = machine_is m n (g.stays.program ∙ sym f.stays.program) (g.position ∙ sym f.position) (g.state ∙ sym f.state)

-- one machine comes of a receive, whatever it finds
takes_one : (o : Option (ℕ × packet.PacketValue)) (v m n : MachineValue) → TakesFound o v m → TakesFound o v n → n ≡ m
takes_one None v m n f g = g ∙ sym f
takes_one (Some x) v m n f g = took_one x.1 v m n f g

-- one machine comes of a probe, whatever it finds
shows_one : (o : Option (ℕ × packet.PacketValue)) (v m n : MachineValue) → IsShownFound o v m → IsShownFound o v n → n ≡ m
shows_one None v m n f g = g ∙ sym f
shows_one (Some x) v m n f g = shown_one x.1 v m n f g

-- one machine comes of a probe that doesn't wait, whatever it finds
tries_one : (o : Option (ℕ × packet.PacketValue)) (v m n : MachineValue) → TriesFound o v m → TriesFound o v n → n ≡ m
tries_one None v m n f g = missed_one v m n f g
tries_one (Some x) v m n f g = shown_one x.1 v m n f g

-- one machine comes of replaying such a probe, whether its event is a hit or a miss
tries_named_one : (o : Option (ℕ × packet.PacketValue)) (k : Kind) (v m n : MachineValue) → TriesNamed o k v m → TriesNamed o k v n → n ≡ m
tries_named_one o kind.Reception v m n f g = g ∙ sym f
tries_named_one o kind.Hit v m n f g = shows_one o v m n f g
tries_named_one o kind.Miss v m n f g = missed_one v m n f g
tries_named_one o kind.Misses v m n f g = missed_one v m n f g

-- one machine comes of an effect, both where there is room for it and where there is none
where_one : (b : Bool) (v m n : MachineValue) (a : Act) → Makes (state_of v) a None → MatchBool b (DidAct v m) (m ≡ v)
    → MatchBool b (DidAct v n) (n ≡ v) → n ≡ m
where_one true v m n a makes f g = did_one v m n a makes f g
where_one false v m n a makes f g = g ∙ sym f

-- a step that isn't replayed
pub step_one : (v : Rank) (x : Want) (m n : MachineValue) → machine_want v.machine ≡ x → MachineStepAt v x m → MachineStepAt v x n → n ≡ m
step_one v want.Internal m n is f g = goes_one v.machine m n f g
step_one v (want.Send d c t) m n is f g =
    where_one (has_room v.pending) v.machine m n (sends d c t (payload (state_of v.machine))) (makes_sent v.machine d c t is) f g
step_one v (want.Receive s) m n is f g = takes_one (found s v.inbox.packets) v.machine m n f g
step_one v (want.Probe s) m n is f g = shows_one (found s v.inbox.packets) v.machine m n f g
step_one v (want.TryProbe s) m n is f g = tries_one (found s v.inbox.packets) v.machine m n f g
step_one v (want.Print x) m n is f g = where_one (has_room v.pending) v.machine m n (prints x) (makes_printed v.machine x is) f g
step_one v want.Halted m n is f g = g ∙ sym f
step_one v (want.Faulted k) m n is f g = g ∙ sym f

-- and one that is
pub replay_one : (v : Rank) (e : EventValue) (x : Want) (m n : MachineValue) → machine_want v.machine ≡ x → ReplayStepAt v e x m → ReplayStepAt v e x n → n ≡ m
replay_one v e want.Internal m n is f g = goes_one v.machine m n f g
replay_one v e (want.Send d c t) m n is f g = did_one v.machine m n (sends d c t (payload (state_of v.machine))) (makes_sent v.machine d c t is) f g
replay_one v e (want.Receive s) m n is f g = takes_one (named v e) v.machine m n f g
replay_one v e (want.Probe s) m n is f g = shows_one (named v e) v.machine m n f g
replay_one v e (want.TryProbe s) m n is f g = tries_named_one (named v e) e.kind v.machine m n f g
replay_one v e (want.Print x) m n is f g = did_one v.machine m n (prints x) (makes_printed v.machine x is) f g
replay_one v e want.Halted m n is f g = g ∙ sym f
replay_one v e (want.Faulted k) m n is f g = g ∙ sym f

-- ---- no call looks at a shelf

-- the machine's step is the same
pub step_shelf : (v : Rank) (shelf : MemoryShelf) (x : Want) (m : MachineValue) → MachineStepAt (on_shelf v shelf) x m → MachineStepAt v x m
step_shelf v shelf want.Internal m f = f
step_shelf v shelf (want.Send d c t) m f = f
step_shelf v shelf (want.Receive s) m f = f
step_shelf v shelf (want.Probe s) m f = f
step_shelf v shelf (want.TryProbe s) m f = f
step_shelf v shelf (want.Print x) m f = f
step_shelf v shelf want.Halted m f = f
step_shelf v shelf (want.Faulted k) m f = f

-- a replayed step on another shelf is one on the rank's own
pub replay_shelf : (v : Rank) (shelf : MemoryShelf) (e : EventValue) (x : Want) (m : MachineValue) → ReplayStepAt (on_shelf v shelf) e x m
    → ReplayStepAt v e x m
replay_shelf v shelf e want.Internal m f = f
replay_shelf v shelf e (want.Send d c t) m f = f
replay_shelf v shelf e (want.Receive s) m f = f
replay_shelf v shelf e (want.Probe s) m f = f
replay_shelf v shelf e (want.TryProbe s) m f = f
replay_shelf v shelf e (want.Print x) m f = f
replay_shelf v shelf e want.Halted m f = f
replay_shelf v shelf e (want.Faulted k) m f = f

-- so is what the step does
pub turn_shelf : (v : Rank) (shelf : MemoryShelf) (x : Want) → turn_at (on_shelf v shelf) x ≡ turn_at v x
turn_shelf v shelf want.Internal = refl
turn_shelf v shelf (want.Send d c t) = refl
turn_shelf v shelf (want.Receive s) = refl
turn_shelf v shelf (want.Probe s) = refl
turn_shelf v shelf (want.TryProbe s) = refl
turn_shelf v shelf (want.Print x) = refl
turn_shelf v shelf want.Halted = refl
turn_shelf v shelf (want.Faulted k) = refl

-- what a replayed step comes to doesn't depend on the shelf
pub replay_turn_shelf : (v : Rank) (shelf : MemoryShelf) (e : EventValue) (x : Want) → replay_turn_at (on_shelf v shelf) e x ≡ replay_turn_at v e x
replay_turn_shelf v shelf e want.Internal = refl
replay_turn_shelf v shelf e (want.Send d c t) = refl
replay_turn_shelf v shelf e (want.Receive s) = refl
replay_turn_shelf v shelf e (want.Probe s) = refl
replay_turn_shelf v shelf e (want.TryProbe s) = refl
replay_turn_shelf v shelf e (want.Print x) = refl
replay_turn_shelf v shelf e want.Halted = refl
replay_turn_shelf v shelf e (want.Faulted k) = refl

-- so is why a probe that doesn't wait is refused
try_shelf : (v : Rank) (shelf : MemoryShelf) (o : Option ℕ) → try_refusal (on_shelf v shelf) o ≡ try_refusal v o
try_shelf v shelf None = refl
try_shelf v shelf (Some index) = refl

-- and whether it is refused
pub refusal_shelf : (v : Rank) (shelf : MemoryShelf) (x : Want) → refusal_at (on_shelf v shelf) x ≡ refusal_at v x
refusal_shelf v shelf want.Internal = refl
refusal_shelf v shelf (want.Send d c t) = refl
refusal_shelf v shelf (want.Receive s) = refl
refusal_shelf v shelf (want.Probe s) = refl
refusal_shelf v shelf (want.TryProbe s) = try_shelf v shelf (position (matches s) v.inbox.packets)
refusal_shelf v shelf (want.Print x) = refl
refusal_shelf v shelf want.Halted = refl
refusal_shelf v shelf (want.Faulted k) = refl

-- the rank after it stands on its shelf
either_shelf : (b : Bool) (x y : Rank) (shelf : MemoryShelf) → (if b then on_shelf x shelf else on_shelf y shelf) ≡ on_shelf (if b then x else y) shelf
either_shelf true x y shelf = refl
either_shelf false x y shelf = refl

-- a send on another shelf leaves the same rank on that shelf
made_send_shelf : (v : Rank) (shelf : MemoryShelf) (m : MachineValue) (d : ℕ) (c : Context) (t : ℕ)
    → made_send (on_shelf v shelf) m d c t ≡ on_shelf (made_send v m d c t) shelf
made_send_shelf v shelf m d c t = either_shelf (is_settled v.pending) (after_send v m d c t) (after_hold v m d c t) shelf

-- so does a print
made_print_shelf : (v : Rank) (shelf : MemoryShelf) (m : MachineValue) (x : ℤ) → made_print (on_shelf v shelf) m x ≡ on_shelf (made_print v m x) shelf
made_print_shelf v shelf m x = either_shelf (is_settled v.pending) (after_print v m) (after_wait v m x) shelf

-- so does a reception, or a receive that finds nothing
received_shelf : (v : Rank) (shelf : MemoryShelf) (m : MachineValue) (o : Option (ℕ × packet.PacketValue))
    → received (on_shelf v shelf) m o ≡ on_shelf (received v m o) shelf
received_shelf v shelf m None = refl
received_shelf v shelf m (Some f) = refl

-- so does a probe
probed_shelf : (v : Rank) (shelf : MemoryShelf) (m : MachineValue) (o : Option (ℕ × packet.PacketValue))
    → probed (on_shelf v shelf) m o ≡ on_shelf (probed v m o) shelf
probed_shelf v shelf m None = refl
probed_shelf v shelf m (Some f) = refl

-- so does a probe that doesn't wait
tried_shelf : (v : Rank) (shelf : MemoryShelf) (m : MachineValue) (o : Option (ℕ × packet.PacketValue))
    → tried (on_shelf v shelf) m o ≡ on_shelf (tried v m o) shelf
tried_shelf v shelf m None = refl
tried_shelf v shelf m (Some f) = refl

-- so does any step
pub stepped_shelf : (v : Rank) (shelf : MemoryShelf) (x : Want) (m : MachineValue) → step_at (on_shelf v shelf) x m ≡ on_shelf (step_at v x m) shelf
stepped_shelf v shelf want.Internal m = refl
stepped_shelf v shelf (want.Send d c t) m =
    ap (λ z. if has_room v.pending then z else on_shelf v shelf) (made_send_shelf v shelf m d c t)
    ∙ either_shelf (has_room v.pending) (made_send v m d c t) v shelf
stepped_shelf v shelf (want.Receive s) m = received_shelf v shelf m (found s v.inbox.packets)
stepped_shelf v shelf (want.Probe s) m = probed_shelf v shelf m (found s v.inbox.packets)
stepped_shelf v shelf (want.TryProbe s) m = tried_shelf v shelf m (found s v.inbox.packets)
stepped_shelf v shelf (want.Print x) m =
    ap (λ z. if has_room v.pending then z else on_shelf v shelf) (made_print_shelf v shelf m x) ∙ either_shelf (has_room v.pending) (made_print v m x) v shelf
stepped_shelf v shelf want.Halted m = refl
stepped_shelf v shelf (want.Faulted k) m = refl

-- a replayed reception on another shelf leaves the same rank on that shelf
taken_shelf : (v : Rank) (shelf : MemoryShelf) (m : MachineValue) (o : Option (ℕ × packet.PacketValue))
    → taken_named (on_shelf v shelf) m o ≡ on_shelf (taken_named v m o) shelf
taken_shelf v shelf m None = refl
taken_shelf v shelf m (Some f) = refl

-- so does a replayed hit
shown_shelf : (v : Rank) (shelf : MemoryShelf) (m : MachineValue) (o : Option (ℕ × packet.PacketValue))
    → shown_named (on_shelf v shelf) m o ≡ on_shelf (shown_named v m o) shelf
shown_shelf v shelf m None = refl
shown_shelf v shelf m (Some f) = refl

-- so does a replayed probe that doesn't wait
tried_named_shelf : (v : Rank) (shelf : MemoryShelf) (m : MachineValue) (o : Option (ℕ × packet.PacketValue)) (k : Kind)
    → tried_named (on_shelf v shelf) m o k ≡ on_shelf (tried_named v m o k) shelf
tried_named_shelf v shelf m o kind.Reception = refl
tried_named_shelf v shelf m o kind.Hit = shown_shelf v shelf m o
tried_named_shelf v shelf m o kind.Miss = refl
tried_named_shelf v shelf m o kind.Misses = refl

-- so does any replayed step
pub replayed_shelf : (v : Rank) (shelf : MemoryShelf) (e : EventValue) (x : Want) (m : MachineValue)
    → replayed_at (on_shelf v shelf) e x m ≡ on_shelf (replayed_at v e x m) shelf
replayed_shelf v shelf e want.Internal m = refl
replayed_shelf v shelf e (want.Send d c t) m = refl
replayed_shelf v shelf e (want.Receive s) m = taken_shelf v shelf m (named v e)
replayed_shelf v shelf e (want.Probe s) m = shown_shelf v shelf m (named v e)
replayed_shelf v shelf e (want.TryProbe s) m = tried_named_shelf v shelf m (named v e) e.kind
replayed_shelf v shelf e (want.Print x) m = refl
replayed_shelf v shelf e want.Halted m = refl
replayed_shelf v shelf e (want.Faulted k) m = refl

-- what passes with a step, and what it shows
pub effect_shelf : (v : Rank) (shelf : MemoryShelf) (x : Want) (t : Turn) → effect_at (on_shelf v shelf) x t ≡ effect_at v x t
effect_shelf v shelf want.Internal t = refl
effect_shelf v shelf (want.Send d c y) t = refl
effect_shelf v shelf (want.Receive s) t = refl
effect_shelf v shelf (want.Probe s) t = refl
effect_shelf v shelf (want.TryProbe s) t = refl
effect_shelf v shelf (want.Print x) t = refl
effect_shelf v shelf want.Halted t = refl
effect_shelf v shelf (want.Faulted k) t = refl

-- the console's lines after a step are the same, whatever the shelf
pub lines_shelf : (lines : List Line) (r : ℕ) (v : Rank) (shelf : MemoryShelf) (x : Want) (t : Turn)
    → lines_after lines r (on_shelf v shelf) x t ≡ lines_after lines r v x t
lines_shelf lines r v shelf want.Internal t = refl
lines_shelf lines r v shelf (want.Send d c y) t = refl
lines_shelf lines r v shelf (want.Receive s) t = refl
lines_shelf lines r v shelf (want.Probe s) t = refl
lines_shelf lines r v shelf (want.TryProbe s) t = refl
lines_shelf lines r v shelf (want.Print x) turn.Moved = refl
lines_shelf lines r v shelf (want.Print x) turn.Blocked = refl
lines_shelf lines r v shelf (want.Print x) turn.Held = refl
lines_shelf lines r v shelf (want.Print x) turn.Ended = refl
lines_shelf lines r v shelf want.Halted t = refl
lines_shelf lines r v shelf (want.Faulted k) t = refl

-- frames that go and come
pub sent_shelf : (v : Rank) (shelf : MemoryShelf) (d : ℕ) (o : Option Frame) → sent_off (on_shelf v shelf) d o ≡ on_shelf (sent_off v d o) shelf
sent_shelf v shelf d None = refl
sent_shelf v shelf d (Some (frame.Ask n)) = refl
sent_shelf v shelf d (Some (frame.Kept n)) = refl
sent_shelf v shelf d (Some (frame.Data p)) = refl

-- a frame that arrives leaves the same rank on whatever shelf
pub frame_shelf : (v : Rank) (shelf : MemoryShelf) (s : ℕ) (f : Frame) → after_frame (on_shelf v shelf) s f ≡ on_shelf (after_frame v s f) shelf
frame_shelf v shelf s (frame.Ask n) = refl
frame_shelf v shelf s (frame.Kept n) = refl
frame_shelf v shelf s (frame.Data p) = either_shelf (p.source == s) (with_inbox v (after_arrival v.inbox p)) v shelf
