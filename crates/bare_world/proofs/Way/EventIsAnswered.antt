-- An event of the way leaves a world its program, its images and machines of its program; and each event that the way asks for
-- is answered: it happens, or it is refused.
use Rattle.std.proofs.Common.{◌≡◌, ℕ, ◌<◌, ◌⊎◌, inl, inr, ◌==◌, Bool, true, false, if◌then◌else◌, List, [], ◌∷◌, Option, Some, None}
use Rattle.std.proofs.Common.{refl, sym, ap, subst, ◌∙◌, arith, slice_get, slice_set, MatchBool}
use Rattle.std.proofs.lemmas.List.{length-set}
use Rattle.std.proofs.lemmas.Option.{slice_get-get_or}
use Rattle.checkpoint.specs.Shelf.{image_bytes}
use Rattle.matching.specs.Inbox.{after_arrival}
use Rattle.matching.specs.PacketValue as packet
use Rattle.event_logger.specs.Sequential.Event.{EventValue}
use Rattle.event_logger.specs.declared.sequential.kind.Kind.{Kind}
use Rattle.event_logger.specs.declared.sequential.kind.Kind.TheVariants as kind
use Rattle.rank_machine.specs.declared.want.Want.{Want}
use Rattle.rank_machine.specs.declared.want.Want.TheVariants as want
use Rattle.rank_machine.specs.Machine.{MachineValue, machine_want}
use Rattle.rank_node.specs.declared.frame.Frame.{Frame}
use Rattle.rank_node.specs.declared.frame.Frame.TheVariants as frame
use Rattle.rank_node.specs.declared.turn.Arrived.{Arrived}
use Rattle.rank_node.specs.declared.turn.Arrived.TheVariants as arrived
use Rattle.rank_node.specs.declared.turn.Turn.{Turn}
use Rattle.rank_node.specs.declared.turn.Turn.TheVariants as turn
use Rattle.rank_node.specs.Frames.{outgoing_of, sent_off, after_frame, arrival_of, with_inbox}
use Rattle.rank_node.specs.Image.{begins_at}
use Rattle.rank_node.specs.Replay.{named, replayed_at, taken_named, shown_named, tried_named, TriesNamed, ReplayStepAt}
use Rattle.rank_node.specs.Steps.{found, received, probed, tried, step_at, made_send, made_print, after_send, after_hold, after_print, after_wait}
use Rattle.rank_node.specs.Steps.{DidAct, TakesFound, IsShownFound, TriesFound, MachineStepAt}
use Rattle.rank_node.specs.Waiting.{has_room, is_settled}
use Rattle.bare_world.specs.declared.event.WorldEvent.TheVariants.{Step, Put, Arrive, Restart}
use Rattle.bare_world.specs.declared.reply.Reply.{Reply}
use Rattle.bare_world.specs.declared.reply.Reply.TheVariants as reply
use Rattle.bare_world.specs.World.{Rank, Live, WorldValue, size, IsLive, IsWire}
use Rattle.bare_world.specs.Follows.{Happens, Follows, ArriveFollows, PutFollows, RestartFollows, arrived_as, stepped, put_as}
use Rattle.bare_world.specs.Onward.{Behind, IsWorld}
use Rattle.bare_world.specs.Stocked.{AreStocked, IsStocked, RunsProgram, HasShelf}
use Rattle.bare_world.proofs.Calls.RankOfEvent.{not_down, one_live}
use Rattle.bare_world.proofs.Lists.Replaced.{slice_set-get}
use Rattle.bare_world.proofs.Calls.SeatStays.{begins_program}
use Rattle.bare_world.proofs.Again.StepWithNothingLeft.{step_allowed}
use Rattle.bare_world.proofs.Way.EventIsPossible.{step_happens, replay_happens, put_happens, arrive_happens, restart_happens}

-- ---- a machine keeps its program

-- after an effect, where there is room for it or where there is none
room_program : (b : Bool) (v x : Rank) (m : MachineValue) → x.machine ≡ m → MatchBool b (DidAct v.machine m) (m ≡ v.machine)
    → (if b then x else v).machine.program ≡ v.machine.program
room_program true v x m e s = ap (λ (z : MachineValue). z.program) e ∙ s.stays.program
room_program false v x m e s = refl

-- a send or a print leaves its machine, whether it waits or not
either_machine : (b : Bool) (x y : Rank) (m : MachineValue) → x.machine ≡ m → y.machine ≡ m → (if b then x else y).machine ≡ m
either_machine true x y m e f = e
either_machine false x y m e f = f

-- after a reception
received_program : (v : Rank) (m : MachineValue) (o : Option (ℕ × packet.PacketValue)) → TakesFound o v.machine m
    → (received v m o).machine.program ≡ v.machine.program
received_program v m None s = refl
received_program v m (Some f) s = s.stays.program

-- after a probe
probed_program : (v : Rank) (m : MachineValue) (o : Option (ℕ × packet.PacketValue)) → IsShownFound o v.machine m
    → (probed v m o).machine.program ≡ v.machine.program
probed_program v m None s = refl
probed_program v m (Some f) s = s.stays.program

-- after one that doesn't wait
tried_program : (v : Rank) (m : MachineValue) (o : Option (ℕ × packet.PacketValue)) → TriesFound o v.machine m
    → (tried v m o).machine.program ≡ v.machine.program
tried_program v m None s = s.stays.program
tried_program v m (Some f) s = s.stays.program

-- after any step
pub step_program : (v : Rank) (x : Want) (m : MachineValue) → MachineStepAt v x m → (step_at v x m).machine.program ≡ v.machine.program
step_program v want.Internal m s = s.program
step_program v (want.Send d c t) m s =
    room_program (has_room v.pending) v (made_send v m d c t) m
    (either_machine (is_settled v.pending) (after_send v m d c t) (after_hold v m d c t) m refl refl) s
step_program v (want.Receive w) m s = received_program v m (found w v.inbox.packets) s
step_program v (want.Probe w) m s = probed_program v m (found w v.inbox.packets) s
step_program v (want.TryProbe w) m s = tried_program v m (found w v.inbox.packets) s
step_program v (want.Print z) m s =
    room_program (has_room v.pending) v (made_print v m z) m
    (either_machine (is_settled v.pending) (after_print v m) (after_wait v m z) m refl refl) s
step_program v want.Halted m s = refl
step_program v (want.Faulted k) m s = refl

-- after a replayed reception
taken_program : (v : Rank) (m : MachineValue) (o : Option (ℕ × packet.PacketValue)) → TakesFound o v.machine m
    → (taken_named v m o).machine.program ≡ v.machine.program
taken_program v m None s = refl
taken_program v m (Some f) s = s.stays.program

-- after a replayed hit
shown_program : (v : Rank) (m : MachineValue) (o : Option (ℕ × packet.PacketValue)) → IsShownFound o v.machine m
    → (shown_named v m o).machine.program ≡ v.machine.program
shown_program v m None s = refl
shown_program v m (Some f) s = s.stays.program

-- after a replayed probe that doesn't wait
tried_named_program : (v : Rank) (m : MachineValue) (o : Option (ℕ × packet.PacketValue)) (k : Kind) → TriesNamed o k v.machine m
    → (tried_named v m o k).machine.program ≡ v.machine.program
tried_named_program v m o kind.Reception s = refl
tried_named_program v m o kind.Hit s = shown_program v m o s
tried_named_program v m o kind.Miss s = s.stays.program
tried_named_program v m o kind.Misses s = s.stays.program

-- after any replayed step
pub replay_program : (v : Rank) (e : EventValue) (x : Want) (m : MachineValue) → ReplayStepAt v e x m
    → (replayed_at v e x m).machine.program ≡ v.machine.program
replay_program v e want.Internal m s = s.program
replay_program v e (want.Send d c t) m s = s.stays.program
replay_program v e (want.Receive w) m s = taken_program v m (named v e) s
replay_program v e (want.Probe w) m s = shown_program v m (named v e) s
replay_program v e (want.TryProbe w) m s = tried_named_program v m (named v e) e.kind s
replay_program v e (want.Print z) m s = s.stays.program
replay_program v e want.Halted m s = refl
replay_program v e (want.Faulted k) m s = refl

-- after a put
pub put_machine : (v : Rank) (d : ℕ) (o : Option Frame) → (sent_off v d o).machine ≡ v.machine
put_machine v d None = refl
put_machine v d (Some (frame.Ask n)) = refl
put_machine v d (Some (frame.Kept n)) = refl
put_machine v d (Some (frame.Data p)) = refl

-- after an arrival
pub arrive_machine : (v : Rank) (s : ℕ) (f : Frame) → (after_frame v s f).machine ≡ v.machine
arrive_machine v s (frame.Ask n) = refl
arrive_machine v s (frame.Kept n) = refl
arrive_machine v s (frame.Data p) = either_machine (p.source == s) (with_inbox v (after_arrival v.inbox p)) v v.machine refl refl

-- ---- a world keeps its stock

-- where one rank changes
pub set_stocked : (w w' : WorldValue) (r : ℕ) (x : Live) → w'.program ≡ w.program → w'.images ≡ w.images → w'.ranks ≡ slice_set w.ranks r (Some x)
    → RunsProgram w.program x → IsStocked w → IsStocked w'
set_stocked w w' r x program images ranks is k =
    subst (λ z. AreStocked z w'.ranks w'.images) (sym program)
    (subst (λ z. AreStocked w.program w'.ranks z) (sym images) (subst (λ z. AreStocked w.program z w.images) (sym ranks)
    (record {
      lines = k.lines;
      run = λ q v e. go q v (slice_set-get w.ranks r q (Some v) (Some x) e);
      shelves = λ q o e. subst (λ n. HasShelf w.program q n o) (sym (length-set w.ranks r (Some x))) (k.shelves q o e);
    })))
  where
    one : (u v : Live) → ◌≡◌ {A = Option Live} (Some u) (Some v) → v ≡ u
    one u v e = cc

    go : (q : ℕ) (v : Live) → ((q ≡ r) × (◌≡◌ {A = Option Live} (Some v) (Some x))) ⊎ ((q ≡ r → ⊥) × (slice_get w.ranks q ≡ Some (Some v)))
        → RunsProgram w.program v
    go q v (inl h) = subst (λ z. RunsProgram w.program z) (one v x h.1) is
    go q v (inr h) = k.run q v h.1

-- a machine that is read from a shelf runs the program
pub image_program : (w : WorldValue) (r : ℕ) (answer : Reply) (w' : WorldValue) (f : RestartFollows w r answer w') → f.image.machine.program ≡ w.program
image_program w r answer w' f =
    ap (λ z. z.machine.program) (f.begins.2 ∙ ap (λ z. begins_at w.program r (size w) z) (sym f.held))
    ∙ begins_program w.program r (size w) (image_bytes f.shelf.image)

-- ---- a step

-- a reply to a step is none of a refusal
pub step_answers : (w : WorldValue) (r : ℕ) (t : Turn) (w' : WorldValue) → Happens w (Step r) (stepped t) w' → Follows w (Step r) (stepped t) w'
step_answers w r turn.Moved w' h = h
step_answers w r turn.Blocked w' h = h
step_answers w r turn.Held w' h = h
step_answers w r turn.Ended w' h = h

-- a rank that is behind the run steps
pub step_drive : (w : WorldValue) (r : ℕ) (v : Live) → IsWorld w → IsStocked w → IsLive w r v → Behind w.run r v
    → (answer : Reply) × (w' : WorldValue) × Follows w (Step r) answer w' × IsStocked w'
step_drive w r v i k live behind = go v.left refl
  where
    go : (left : List EventValue) → v.left ≡ left → (answer : Reply) × (w' : WorldValue) × Follows w (Step r) answer w' × IsStocked w'
    go [] e =
        let few = i.onward.acts r in
        let allowed = step_allowed w r v v.rank.machine i.stands live behind e ((i.onward.ranks r v live).settled behind) (omega (arith, behind, few))
        (machine_want v.rank.machine) refl in
        let s = step_happens w r v i.stands k live e allowed in
        let f = s.1 in (
          _,
          s.0,
          step_answers w r _ s.0 (inl f),
          set_stocked w s.0 r _ (ap (λ z. z.program) f.after) (ap (λ z. z.images) f.after) (ap (λ z. z.ranks) f.after)
              (step_program f.before.rank (machine_want f.before.rank.machine) f.machine f.steps ∙ k.run r f.before f.live) k,
        )
    go (e ∷ rest) is =
        let s = replay_happens w r v e rest i.stands k live is in
        let f = s.2 in (
          _,
          s.1,
          step_answers w r s.0 s.1 (inr f),
          set_stocked w s.1 r _ (ap (λ z. z.program) f.after) (ap (λ z. z.images) f.after) (ap (λ z. z.ranks) f.after)
              (replay_program f.before.rank f.event (machine_want f.before.rank.machine) f.machine f.steps ∙ k.run r f.before f.live) k,
        )

-- ---- frames

-- a reply to a put is none of a refusal
pub put_answers : (w : WorldValue) (s d i : ℕ) (f : Frame) (w' : WorldValue) → PutFollows w s d (put_as i f) w' → Follows w (Put s d) (put_as i f) w'
put_answers w s d i (frame.Data p) w' h = h
put_answers w s d i (frame.Ask n) w' h = h
put_answers w s d i (frame.Kept n) w' h = h

-- what goes next from a live rank is put, if anything does
pub put_drive : (w : WorldValue) (s d : ℕ) (v : Live) → IsWorld w → IsStocked w → IsLive w s v → d < size w
    → (answer : Reply) × (w' : WorldValue) × Follows w (Put s d) answer w' × IsStocked w'
put_drive w s d v i k live l = go (outgoing_of v.rank d) refl
  where
    go : (o : Option Frame) → outgoing_of v.rank d ≡ o → (answer : Reply) × (w' : WorldValue) × Follows w (Put s d) answer w' × IsStocked w'
    go None e = (reply.Refused, w, (λ u lu m. ap (λ z. outgoing_of z.rank d) (one_live w s v u live lu) ∙ e, refl), k)
    go (Some f) e =
        let p = put_happens w s d v f i.stands live l e in
        let h = p.2 in (
          put_as p.0 f,
          p.1,
          put_answers w s d p.0 f p.1 h,
          set_stocked w p.1 s _ (ap (λ z. z.program) h.after) (ap (λ z. z.images) h.after) (ap (λ z. z.ranks) h.after)
              (ap (λ (z : MachineValue). z.program) (put_machine h.before.rank d (outgoing_of h.before.rank d)) ∙ k.run s h.before h.live) k,
        )

-- a reply to an arrival is none of a refusal
pub arrive_answers : (w : WorldValue) (s d i : ℕ) (a : Arrived) (answer : Reply) (w' : WorldValue) → arrived_as a ≡ Some answer
    → ArriveFollows w s d i answer w' → Follows w (Arrive s d i) answer w'
arrive_answers w s d i arrived.Accepted answer w' e h = (let q : reply.Accepted ≡ answer = cc in
    subst (λ z. Follows w (Arrive s d i) z w') q (subst (λ z. ArriveFollows w s d i z w') (sym q) h))
arrive_answers w s d i arrived.Repeated answer w' e h = (let q : reply.Repeated ≡ answer = cc in
    subst (λ z. Follows w (Arrive s d i) z w') q (subst (λ z. ArriveFollows w s d i z w') (sym q) h))
arrive_answers w s d i arrived.Gap answer w' e h = (let q : reply.Gap ≡ answer = cc in
    subst (λ z. Follows w (Arrive s d i) z w') q (subst (λ z. ArriveFollows w s d i z w') (sym q) h))
arrive_answers w s d i arrived.Noted answer w' e h = (let q : reply.Noted ≡ answer = cc in
    subst (λ z. Follows w (Arrive s d i) z w') q (subst (λ z. ArriveFollows w s d i z w') (sym q) h))
arrive_answers w s d i arrived.Foreign answer w' e h = absurd cc

-- a frame of the wire to a live rank arrives
pub arrive_drive : (w : WorldValue) (s d i : ℕ) (v : Live) (frames : List Frame) (f : Frame) → IsWorld w → IsStocked w → IsLive w d v → IsWire w s d frames
    → slice_get frames i ≡ Some f → (answer : Reply) × (w' : WorldValue) × Follows w (Arrive s d i) answer w' × IsStocked w'
arrive_drive w s d i v frames f world k live wire there =
    let p = arrive_happens w s d i v frames f world.stands live wire there in
    let h = p.2 in (
      p.0,
      p.1,
      arrive_answers w s d i (arrival_of h.before.rank s h.frame) p.0 p.1 h.answered h,
      set_stocked w p.1 d _ (ap (λ z. z.program) h.after) (ap (λ z. z.images) h.after) (ap (λ z. z.ranks) h.after)
          (ap (λ (z : MachineValue). z.program) (arrive_machine h.before.rank s h.frame) ∙ k.run d h.before h.live) k,
    )

-- ---- a restart

-- a rank starts again, if it is down
pub restart_drive : (w : WorldValue) (r : ℕ) → IsWorld w → IsStocked w → r < size w
    → (answer : Reply) × (w' : WorldValue) × Follows w (Restart r) answer w' × IsStocked w'
restart_drive w r i k l = go (slice_get w.ranks r) refl
  where
    go : (o : Option (Option Live)) → slice_get w.ranks r ≡ o → (answer : Reply) × (w' : WorldValue) × Follows w (Restart r) answer w' × IsStocked w'
    go None e = absurd (let q : None ≡ Some (_) = sym e ∙ slice_get-get_or w.ranks r None l in cc)
    go (Some (Some v)) e = (reply.Refused, w, (λ down. not_down w r v down e, refl), k)
    go (Some None) e =
        let p = restart_happens w r i.stands k e in
        let h = p.2 in (
          reply.Restarted p.0,
          p.1,
          h,
          set_stocked w p.1 r _ (ap (λ z. z.program) h.after) (ap (λ z. z.images) h.after) (ap (λ z. z.ranks) h.after) (image_program w r (reply.Restarted p.0) p.1 h) k,
        )
