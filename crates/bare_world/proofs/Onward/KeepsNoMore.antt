-- No step, frame or release makes a payload log keep more packets that it has transmitted.
use Rattle.std.proofs.Common.{◌≡◌, ℕ, zero, suc, ◌+◌, ◌-◌, ◌<◌, ◌≤◌, ◌⊎◌, inl, inr, Bool, true, false, ◌==◌, if◌then◌else◌, nat_lt, max, List, [], ◌∷◌, Option}
use Rattle.std.proofs.Common.{Some, None, drop, replicate, refl, ap, subst, arith, slice_get, slice_set}
use Rattle.std.proofs.lemmas.Bool.{cases_lt, lt-ltb, le-ltb}
use Rattle.matching.specs.Inbox.{after_arrival}
use Rattle.matching.specs.PacketValue as packet
use Rattle.matching.specs.declared.packet.Context.{Context}
use Rattle.payload_log.specs.Backlog.{BacklogValue, backlog, new_backlog, saved, hold, freed, freed_of, asked, pruned}
use Rattle.event_logger.specs.Sequential.Event.{EventValue}
use Rattle.event_logger.specs.declared.sequential.kind.Kind.{Kind}
use Rattle.event_logger.specs.declared.sequential.kind.Kind.TheVariants as kind
use Rattle.rank_machine.specs.declared.want.Want.{Want}
use Rattle.rank_machine.specs.declared.want.Want.TheVariants as want
use Rattle.rank_machine.specs.Machine.{MachineValue}
use Rattle.rank_node.specs.declared.frame.Frame.{Frame}
use Rattle.rank_node.specs.declared.frame.Frame.TheVariants as frame
use Rattle.rank_node.specs.declared.waiting.Waiting.{Waiting}
use Rattle.rank_node.specs.declared.waiting.Waiting.TheVariants as waits
use Rattle.rank_node.specs.Frames.{after_frame, with_inbox}
use Rattle.rank_node.specs.Releasing.{released_log}
use Rattle.rank_node.specs.Replay.{named, replayed_at, taken_named, shown_named, tried_named}
use Rattle.rank_node.specs.Steps.{message_of, after_send, after_hold, after_print, after_wait, received, probed, tried, found, step_at}
use Rattle.rank_node.specs.Waiting.{has_room, is_settled}
use Rattle.bare_world.specs.World.{Rank}
use Rattle.audit.proofs.Traces.{replicate_each}

-- the packet of this number was transmitted, and is kept
abbrev pub Between : BacklogValue → ℕ → Type 0
Between b j = (b.base < j) × (j < b.cursor)

-- a log has no more of these than another
abbrev pub Narrower : List BacklogValue → List BacklogValue → Type 0
Narrower old new = (d j : ℕ) → Between (backlog new d) j → Between (backlog old d) j

-- where one of its backlogs has no more
narrow_set : (log : List BacklogValue) (s : ℕ) (b : BacklogValue) → ((j : ℕ) → Between b j → Between (backlog log s) j) → Narrower log (slice_set log s b)
narrow_set [] s b all d j h = h
narrow_set (x ∷ log) zero b all zero j h = all j h
narrow_set (x ∷ log) zero b all (suc d) j h = h
narrow_set (x ∷ log) (suc s) b all zero j h = h
narrow_set (x ∷ log) (suc s) b all (suc d) j h = narrow_set log s b all d j h

-- ---- steps

-- a send, at once or not, or none
narrow_send : (b c : Bool) (v : Rank) (m : MachineValue) (d : ℕ) (x : Context) (t : ℕ)
    → Narrower v.log (if b then (if c then after_send v m d x t else after_hold v m d x t) else v).log
narrow_send false c v m d x t = λ e j h. h
narrow_send true true v m d x t = narrow_set v.log d (saved (backlog v.log d) (message_of v d x t)) (λ j h. h)
narrow_send true false v m d x t = narrow_set v.log d (hold (backlog v.log d) (message_of v d x t)) (λ j h. h)

-- a print
narrow_print : (b c : Bool) (v : Rank) (m : MachineValue) (n : Waiting → Waiting) (x y : Rank) → x.log ≡ v.log → y.log ≡ v.log
    → Narrower v.log (if b then (if c then x else y) else v).log
narrow_print false c v m n x y e f d j h = h
narrow_print true true v m n x y e f d j h = subst (λ z. Between (backlog z d) j) e h
narrow_print true false v m n x y e f d j h = subst (λ z. Between (backlog z d) j) f h

-- a reception
narrow_received : (v : Rank) (m : MachineValue) (o : Option (ℕ × packet.PacketValue)) → Narrower v.log (received v m o).log
narrow_received v m None d j h = h
narrow_received v m (Some f) d j h = h

-- a probe
narrow_probed : (v : Rank) (m : MachineValue) (o : Option (ℕ × packet.PacketValue)) → Narrower v.log (probed v m o).log
narrow_probed v m None d j h = h
narrow_probed v m (Some f) d j h = h

-- a probe that doesn't wait
narrow_tried : (v : Rank) (m : MachineValue) (o : Option (ℕ × packet.PacketValue)) → Narrower v.log (tried v m o).log
narrow_tried v m None d j h = h
narrow_tried v m (Some f) d j h = h

-- each step
pub narrow_step : (v : Rank) (x : Want) (m : MachineValue) → Narrower v.log (step_at v x m).log
narrow_step v want.Internal m = λ d j h. h
narrow_step v (want.Send e c t) m = narrow_send (has_room v.pending) (is_settled v.pending) v m e c t
narrow_step v (want.Receive x) m = narrow_received v m (found x v.inbox.packets)
narrow_step v (want.Probe x) m = narrow_probed v m (found x v.inbox.packets)
narrow_step v (want.TryProbe x) m = narrow_tried v m (found x v.inbox.packets)
narrow_step v (want.Print z) m =
    narrow_print (has_room v.pending) (is_settled v.pending) v m (λ y. y) (after_print v m) (after_wait v m z) refl refl
narrow_step v want.Halted m = λ d j h. h
narrow_step v (want.Faulted k) m = λ d j h. h

-- a reception that is replayed
narrow_taken : (v : Rank) (m : MachineValue) (o : Option (ℕ × packet.PacketValue)) → Narrower v.log (taken_named v m o).log
narrow_taken v m None d j h = h
narrow_taken v m (Some f) d j h = h

-- a hit that is replayed
narrow_shown : (v : Rank) (m : MachineValue) (o : Option (ℕ × packet.PacketValue)) → Narrower v.log (shown_named v m o).log
narrow_shown v m None d j h = h
narrow_shown v m (Some f) d j h = h

-- a replayed probe that doesn't wait
narrow_tried_named : (v : Rank) (m : MachineValue) (o : Option (ℕ × packet.PacketValue)) (k : Kind) → Narrower v.log (tried_named v m o k).log
narrow_tried_named v m o kind.Reception d j h = h
narrow_tried_named v m o kind.Hit d j h = narrow_shown v m o d j h
narrow_tried_named v m o kind.Miss d j h = h
narrow_tried_named v m o kind.Misses d j h = h

-- each replayed step
pub narrow_replay : (v : Rank) (e : EventValue) (x : Want) (m : MachineValue) → Narrower v.log (replayed_at v e x m).log
narrow_replay v e want.Internal m = λ d j h. h
narrow_replay v e (want.Send f c t) m = narrow_send true true v m f c t
narrow_replay v e (want.Receive x) m = narrow_taken v m (named v e)
narrow_replay v e (want.Probe x) m = narrow_shown v m (named v e)
narrow_replay v e (want.TryProbe x) m = narrow_tried_named v m (named v e) e.kind
narrow_replay v e (want.Print z) m = λ d j h. h
narrow_replay v e want.Halted m = λ d j h. h
narrow_replay v e (want.Faulted k) m = λ d j h. h

-- ---- frames and releases

-- a backlog of which the first were let go
narrow_pruned : (b : BacklogValue) (upto j : ℕ) → Between (pruned b upto) j → Between b j
narrow_pruned b upto j = go (cases_lt b.base upto) (nat_lt b.base upto) (λ l. lt-ltb b.base upto l)
  where
    go : (b.base < upto) ⊎ (upto ≤ b.base) → (c : Bool) → (b.base < upto → nat_lt b.base upto ≡ true)
        → Between (pruned b upto) j → Between b j
    go (inl l) c t h =
        let e : pruned b upto ≡ record b { base = upto; cursor = max b.cursor (upto + 1); kept = drop (upto - b.base) b.kept } =
        ap (λ z. if z then record b { base = upto; cursor = max b.cursor (upto + 1); kept = drop (upto - b.base) b.kept } else b) (t l) in
        let k = subst (λ z. Between z j) e h in
        let low = k.0 in
        let high = k.1 in
        (omega (arith, l, low), omega (arith, low, high))
    go (inr l) c t h =
        let e : pruned b upto ≡ b =
        ap (λ z. if z then record b { base = upto; cursor = max b.cursor (upto + 1); kept = drop (upto - b.base) b.kept } else b)
        (le-ltb b.base upto l) in
        subst (λ z. Between z j) e h

-- a frame that arrives
pub narrow_arrived : (v : Rank) (s : ℕ) (f : Frame) → Narrower v.log (after_frame v s f).log
narrow_arrived v s (frame.Ask n) =
    narrow_set v.log s (asked (backlog v.log s) n) (λ j h. (let low = h.0 in let high = h.1 in (low, omega (arith, low, high))))
narrow_arrived v s (frame.Kept n) = narrow_set v.log s (pruned (backlog v.log s) n) (λ j h. narrow_pruned (backlog v.log s) n j h)
narrow_arrived v s (frame.Data p) = λ d j h. go d j (p.source == s) h
  where
    go : (d j : ℕ) (b : Bool) → Between (backlog (if b then with_inbox v (after_arrival v.inbox p) else v).log d) j → Between (backlog v.log d) j
    go d j true h = h
    go d j false h = h

-- a release
pub narrow_released : (log : List BacklogValue) (x : Waiting) → Narrower log (released_log log x)
narrow_released log (waits.Event e) = λ d j h. h
narrow_released log (waits.Line c z) = λ d j h. h
narrow_released log (waits.Send dest c) = narrow_set log dest (freed (backlog log dest)) (λ j h. go (backlog log dest) (backlog log dest).held j h)
  where
    go : (b : BacklogValue) (ms : List packet.PacketValue) (j : ℕ) → Between (freed_of b ms) j → Between b j
    go b [] j h = h
    go b (m ∷ ms) j h = h

-- an image has transmitted nothing that it keeps
pub none_between : (log : List BacklogValue) → ((d : ℕ) (b : BacklogValue) → slice_get log d ≡ Some b → b.cursor ≡ b.base + 1) → (d j : ℕ) → Between (backlog log d) j → ⊥
none_between [] all d j h = (let low = h.0 in let high = h.1 in omega (arith, low, high))
none_between (b ∷ log) all zero j h = (let e = all 0 b refl in let low = h.0 in let high = h.1 in omega (arith, e, low, high))
none_between (b ∷ log) all (suc d) j h = none_between log (λ k. all (suc k)) d j h

-- nor has a log that is new
pub none_new : (n d j : ℕ) → Between (backlog (replicate n new_backlog) d) j → ⊥
none_new n d j h = none_between (replicate n new_backlog) (λ e b at. (let q = ap (λ z. z.cursor) (replicate_each n new_backlog e b at) in
    let p = ap (λ z. z.base) (replicate_each n new_backlog e b at) in omega (arith, q, p))) d j h
