-- What can happen does: an event of the way that isn't refused takes some course, whatever memory there is.
use Rattle.std.proofs.Common.{◌≡◌, ℕ, ◌<◌, Bool, true, false, if◌then◌else◌, List, [], ◌∷◌, ◌++◌, Option, Some, None, Ok, Err, length}
use Rattle.std.proofs.Common.{refl, sym, ap, subst, ◌∙◌, arith, slice_get, slice_set, slice_index_or, position, option_and_then, MatchBool}
use Rattle.std.proofs.lemmas.Bool.{eq-eqb}
use Rattle.std.proofs.lemmas.List.Quantifiers.{position-Some}
use Rattle.std.proofs.lemmas.Option.{slice_get_within, slice_get-get_or, get_or_from_slice_get}
use Rattle.checkpoint.specs.Image.{ImageValue}
use Rattle.matching.specs.declared.inbox.Accept.{Accept}
use Rattle.matching.specs.declared.inbox.Accept.TheVariants as accept
use Rattle.matching.specs.declared.selector.Selector.{Selector}
use Rattle.matching.specs.Inbox.{answer_to}
use Rattle.matching.specs.Matching.{matches}
use Rattle.matching.specs.PacketValue as packet
use Rattle.event_logger.specs.Sequential.Event.{EventValue}
use Rattle.event_logger.specs.Sequential.History.{above, row, state_after, next_call}
use Rattle.event_logger.specs.declared.sequential.call.Call.TheVariants.{Fetch}
use Rattle.event_logger.specs.declared.sequential.call.Reply.TheVariants.{Events}
use Rattle.event_logger.specs.declared.sequential.kind.Kind.{Kind}
use Rattle.event_logger.specs.declared.sequential.kind.Kind.TheVariants as kind
use Rattle.rank_language.specs.Block.{lines_at}
use Rattle.rank_language.specs.Program.{ProgramValue, block_of}
use Rattle.rank_machine.specs.declared.want.Want.{Want}
use Rattle.rank_machine.specs.declared.want.Want.TheVariants as want
use Rattle.rank_machine.specs.Machine.{MachineValue, state_of, machine_want}
use Rattle.rank_node.specs.declared.fault.NodeFault.TheVariants as fault
use Rattle.rank_node.specs.declared.frame.Frame.{Frame}
use Rattle.rank_node.specs.declared.frame.Frame.TheVariants as frame
use Rattle.rank_node.specs.declared.turn.Arrived.TheVariants as arrived
use Rattle.rank_node.specs.declared.turn.Turn.{Turn}
use Rattle.rank_node.specs.declared.turn.Turn.TheVariants as turn
use Rattle.rank_node.specs.Frames as frames
use Rattle.rank_node.specs.Frames.{outgoing_of, after_passed, arrival_of, after_frame}
use Rattle.rank_node.specs.Image.{begins_at}
use Rattle.rank_node.specs.Replay.{restarted, left_of, named, is_now, receive_turn, probe_turn, try_turn, named_turn, replay_turn_at, ReplayStepAt, TriesNamed}
use Rattle.rank_node.specs.Replay.{after_replay, left_after}
use Rattle.rank_node.specs.Steps.{at_index, found, refusal_of, turn_of, after_step, DidAct, TakesFound, IsShownFound, TriesFound, MachineStepAt}
use Rattle.rank_node.specs.Waiting.{has_room}
use Rattle.crash_free.specs.Runs.{Passed}
use Rattle.bare_world.specs.declared.reply.Reply.{Reply}
use Rattle.bare_world.specs.declared.reply.Reply.TheVariants as reply
use Rattle.bare_world.specs.World.{Rank, Live, WorldValue, size, IsLive, IsDown, IsWire}
use Rattle.bare_world.specs.Wires.{wire_of}
use Rattle.bare_world.specs.Headline.{IsReal, stable_of}
use Rattle.bare_world.specs.Stands.{Stands, RankStands, start_at}
use Rattle.bare_world.specs.Plain.{plain}
use Rattle.bare_world.specs.Stocked.{IsStocked}
use Rattle.bare_world.specs.Follows.{StepFollows, ReplayFollows, PutFollows, ArriveFollows, RestartFollows}
use Rattle.bare_world.specs.Follows.{arrived_as, stepped, put_as, after_turn, with_rank}
use Rattle.bare_world.proofs.Calls.Frames.{has_wire, the_wire}
use Rattle.bare_world.proofs.Plain.ReplaySteps.{fitting}
use Rattle.bare_world.proofs.Plain.Worlds.{rank_of}
use Rattle.bare_world.proofs.Way.StepOfItsOwn.{InLines, internal_goes}
use Rattle.bare_world.proofs.Way.MachineHasStep.{sent_goes, printed_goes, taken_goes, hit_goes, tried_goes, missed_goes}
use Rattle.bare_world.proofs.Way.CollectiveStages.{Staged, staged_opening, staged_inners, staged_runs}

-- ---- a machine's step

-- an act, where there is room for it
where_room : (b : Bool) (m : MachineValue) → (n : MachineValue) × DidAct m n → (n : MachineValue) × MatchBool b (DidAct m n) (n ≡ m)
where_room true m x = x
where_room false m x = (m, refl)

-- a receive of what there is
takes_goes : (m : MachineValue) (w : Selector) (o : Option (ℕ × packet.PacketValue)) → InLines m → machine_want m ≡ want.Receive w
    → ((f : ℕ × packet.PacketValue) → o ≡ Some f → matches w f.1 ≡ true) → (n : MachineValue) × TakesFound o m n
takes_goes m w None lines is all = (m, refl)
takes_goes m w (Some f) lines is all = taken_goes m w f.1 lines is (all f refl)

-- a probe
shows_goes : (m : MachineValue) (w : Selector) (o : Option (ℕ × packet.PacketValue)) → InLines m → machine_want m ≡ want.Probe w
    → ((f : ℕ × packet.PacketValue) → o ≡ Some f → matches w f.1 ≡ true) → (n : MachineValue) × IsShownFound o m n
shows_goes m w None lines is all = (m, refl)
shows_goes m w (Some f) lines is all = hit_goes m w f.1 lines is (all f refl)

-- one that doesn't wait
tries_goes : (m : MachineValue) (w : Selector) (o : Option (ℕ × packet.PacketValue)) → InLines m → machine_want m ≡ want.TryProbe w
    → ((f : ℕ × packet.PacketValue) → o ≡ Some f → matches w f.1 ≡ true) → (n : MachineValue) × TriesFound o m n
tries_goes m w None lines is all = missed_goes m w lines is
tries_goes m w (Some f) lines is all = tried_goes m w f.1 lines is (all f refl)

-- one whose event says what it found
tries_named_goes : (m : MachineValue) (w : Selector) (o : Option (ℕ × packet.PacketValue)) (k : Kind) → InLines m → machine_want m ≡ want.TryProbe w
    → ((f : ℕ × packet.PacketValue) → k ≡ kind.Hit → o ≡ Some f → matches w f.1 ≡ true) → (n : MachineValue) × TriesNamed o k m n
tries_named_goes m w o kind.Reception lines is all = (m, refl)
tries_named_goes m w None kind.Hit lines is all = (m, refl)
tries_named_goes m w (Some f) kind.Hit lines is all = tried_goes m w f.1 lines is (all f refl refl)
tries_named_goes m w o kind.Miss lines is all = missed_goes m w lines is
tries_named_goes m w o kind.Misses lines is all = missed_goes m w lines is

-- what is found is what the selector names
found_matches : (w : Selector) (ms : List packet.PacketValue) (f : ℕ × packet.PacketValue) → found w ms ≡ Some f → matches w f.1 ≡ true
found_matches w ms f e = go (position (matches w) ms) refl e
  where
    there : (i : ℕ) → position (matches w) ms ≡ Some i → (o : Option packet.PacketValue) → slice_get ms i ≡ o
        → option_and_then {U = ℕ × packet.PacketValue} (λ p. Some (i, p)) o ≡ Some f → matches w f.1 ≡ true
    there i first None at q = absurd cc
    there i first (Some p) at q =
        let same : (i, p) ≡ f = cc in
        let x = position-Some (matches w) ms i p first in
        ap (λ (z : ℕ × packet.PacketValue). matches w z.1) (sym same) ∙ ap (λ z. matches w z) (sym (get_or_from_slice_get ms i p p at)) ∙ x.1

    go : (o : Option ℕ) → position (matches w) ms ≡ o → option_and_then (at_index ms) o ≡ Some f → matches w f.1 ≡ true
    go None first q = absurd cc
    go (Some i) first q = there i first (slice_get ms i) refl q

-- a step of a rank at work
pub step_goes : (v : Rank) (x : Want) → InLines v.machine → Staged (state_of v.machine) → machine_want v.machine ≡ x
    → (n : MachineValue) × MachineStepAt v x n
step_goes v want.Internal lines staged is = internal_goes v.machine lines staged is
step_goes v (want.Send d c t) lines staged is = where_room (has_room v.pending) v.machine (sent_goes v.machine d c t lines is)
step_goes v (want.Receive w) lines staged is =
    takes_goes v.machine w (found w v.inbox.packets) lines is (λ f e. found_matches w v.inbox.packets f e)
step_goes v (want.Probe w) lines staged is = shows_goes v.machine w (found w v.inbox.packets) lines is (λ f e. found_matches w v.inbox.packets f e)
step_goes v (want.TryProbe w) lines staged is = tries_goes v.machine w (found w v.inbox.packets) lines is (λ f e. found_matches w v.inbox.packets f e)
step_goes v (want.Print z) lines staged is = where_room (has_room v.pending) v.machine (printed_goes v.machine z lines is)
step_goes v want.Halted lines staged is = (v.machine, refl)
step_goes v (want.Faulted k) lines staged is = (v.machine, refl)

-- a test that doesn't fault passed
passed : (b : Bool) (t : Turn) → (if b then Ok turn.Moved else Err fault.Replay) ≡ Ok t → b ≡ true
passed true t e = refl
passed false t e = absurd cc

-- a packet that is replayed is one that the selector names
turn_matches : (w : Selector) (f : ℕ × packet.PacketValue) (t : Turn) → named_turn w (Some f) ≡ Ok t → matches w f.1 ≡ true
turn_matches w f t e = passed (matches w f.1) t e

-- so of a reception
receive_matches : (b : Bool) (w : Selector) (o : Option (ℕ × packet.PacketValue)) (k : Kind) (t : Turn) (f : ℕ × packet.PacketValue)
    → (if b then receive_turn w o k else Err fault.Replay) ≡ Ok t → o ≡ Some f → matches w f.1 ≡ true
receive_matches false w o k t f e is = absurd cc
receive_matches true w o kind.Reception t f e is = turn_matches w f t (ap (λ z. named_turn w z) (sym is) ∙ e)
receive_matches true w o kind.Hit t f e is = absurd cc
receive_matches true w o kind.Miss t f e is = absurd cc
receive_matches true w o kind.Misses t f e is = absurd cc

-- of a probe
probe_matches : (b : Bool) (w : Selector) (o : Option (ℕ × packet.PacketValue)) (k : Kind) (t : Turn) (f : ℕ × packet.PacketValue)
    → (if b then probe_turn w o k else Err fault.Replay) ≡ Ok t → o ≡ Some f → matches w f.1 ≡ true
probe_matches false w o k t f e is = absurd cc
probe_matches true w o kind.Hit t f e is = turn_matches w f t (ap (λ z. named_turn w z) (sym is) ∙ e)
probe_matches true w o kind.Reception t f e is = absurd cc
probe_matches true w o kind.Miss t f e is = absurd cc
probe_matches true w o kind.Misses t f e is = absurd cc

-- and of one that doesn't wait
try_matches : (b : Bool) (w : Selector) (o : Option (ℕ × packet.PacketValue)) (k : Kind) (t : Turn) (f : ℕ × packet.PacketValue)
    → (if b then try_turn w o k else Err fault.Replay) ≡ Ok t → k ≡ kind.Hit → o ≡ Some f → matches w f.1 ≡ true
try_matches false w o k t f e hit is = absurd cc
try_matches true w o k t f e hit is =
    turn_matches w f t (ap (λ z. named_turn w z) (sym is) ∙ ap (λ z. try_turn w o z) (sym hit) ∙ e)

-- a replayed step
replay_goes : (v : Rank) (e : EventValue) (x : Want) (t : Turn) → InLines v.machine → Staged (state_of v.machine) → machine_want v.machine ≡ x
    → replay_turn_at v e x ≡ Ok t → (n : MachineValue) × ReplayStepAt v e x n
replay_goes v e want.Internal t lines staged is to = internal_goes v.machine lines staged is
replay_goes v e (want.Send d c n) t lines staged is to = sent_goes v.machine d c n lines is
replay_goes v e (want.Receive w) t lines staged is to =
    takes_goes v.machine w (named v e) lines is (λ f q. receive_matches (is_now v e) w (named v e) e.kind t f to q)
replay_goes v e (want.Probe w) t lines staged is to =
    shows_goes v.machine w (named v e) lines is (λ f q. probe_matches (is_now v e) w (named v e) e.kind t f to q)
replay_goes v e (want.TryProbe w) t lines staged is to =
    tries_named_goes v.machine w (named v e) e.kind lines is (λ f hit q. try_matches (is_now v e) w (named v e) e.kind t f to hit q)
replay_goes v e (want.Print z) t lines staged is to = printed_goes v.machine z lines is
replay_goes v e want.Halted t lines staged is to = (v.machine, refl)
replay_goes v e (want.Faulted k) t lines staged is to = (v.machine, refl)

-- ---- a step

-- a live rank is at a part of its collective
pub live_staged : (w : WorldValue) (r : ℕ) (v : Live) → Stands w → IsLive w r v → Staged (state_of v.rank.machine)
live_staged w r v t live =
    staged_inners s.at.inner
    (staged_runs (start_at w (size w) r) s.at.after _ s.at.reached (staged_opening w.program r (size w) (slice_get_within w.ranks r (Some v) live)))
  where
    s : RankStands (start_at w (size w)) (size w) w.run r (plain v)
    s = rank_of t r v live

-- its lines are those of its tree
pub live_lines : (w : WorldValue) (r : ℕ) (v : Live) → IsStocked w → IsLive w r v → InLines v.rank.machine
live_lines w r v k live = subst (λ (z : ProgramValue). z.statements ≡ lines_at 0 (block_of z)) (sym (k.run r v live)) k.lines

-- a step of a rank that replays nothing
pub step_happens : (w : WorldValue) (r : ℕ) (v : Live) → Stands w → IsStocked w → IsLive w r v → v.left ≡ [] → refusal_of v.rank ≡ None
    → (w' : WorldValue) × StepFollows w r (stepped (turn_of v.rank)) w'
step_happens w r v t k live left allowed =
    let m = step_goes v.rank (machine_want v.rank.machine) (live_lines w r v k live) (live_staged w r v t live) refl in (
      after_turn w r v (turn_of v.rank) (after_step v.rank m.0) [],
      record { before = v; live = live; running = left; allowed = allowed; machine = m.0; steps = m.1; answered = refl; after = refl },
    )

-- and of one that replays
pub replay_happens : (w : WorldValue) (r : ℕ) (v : Live) (e : EventValue) (rest : List EventValue) → Stands w → IsStocked w → IsLive w r v
    → v.left ≡ e ∷ rest → (t : Turn) × (w' : WorldValue) × ReplayFollows w r (stepped t) w'
replay_happens w r v e rest s k live left =
    let t = fitting w r v s live e rest left (machine_want v.rank.machine) refl in
    let m = replay_goes v.rank e (machine_want v.rank.machine) t.0 (live_lines w r v k live) (live_staged w r v s live) refl t.1 in (
      t.0,
      after_turn w r v t.0 (after_replay v.rank e m.0) (left_after v.rank (machine_want v.rank.machine) t.0 e rest),
      record {
        before = v;
        live = live;
        event = e;
        rest = rest;
        replaying = left;
        turn = t.0;
        turned = t.1;
        machine = m.0;
        steps = m.1;
        answered = refl;
        after = refl;
      },
    )

-- ---- frames

-- a put
pub put_happens : (w : WorldValue) (s d : ℕ) (v : Live) (f : Frame) → Stands w → IsLive w s v → d < size w → outgoing_of v.rank d ≡ Some f
    → (i : ℕ) × (w' : WorldValue) × PutFollows w s d (put_as i f) w'
put_happens w s d v f t live l next =
    let wire = the_wire w s d (has_wire w s d t (slice_get_within w.ranks s (Some v) live) l) in (
      length (wire_of w.wires s d),
      record w {
        ranks = slice_set w.ranks s (Some (record { rank = after_passed v.rank d; left = v.left }));
        wires = slice_set w.wires s (slice_set wire.0 d (wire_of w.wires s d ++ f ∷ []));
      },
      record {
        before = v;
        live = live;
        frame = f;
        next = next;
        of_s = wire.0;
        wires = wire.1;
        frames = wire_of w.wires s d;
        wire = wire.2;
        answered = refl;
        after = refl;
      },
    )

-- what a frame of the wire is answered by
pub arrival_answers : (v : Rank) (s : ℕ) (f : Frame) (C : List Passed) (d : ℕ) → IsReal C s d f
    → (answer : Reply) × (arrived_as (arrival_of v s f) ≡ Some answer)
arrival_answers v s (frame.Ask n) C d real = (reply.Noted, refl)
arrival_answers v s (frame.Kept n) C d real = (reply.Noted, refl)
arrival_answers v s (frame.Data p) C d real =
    let a = accepted (answer_to v.inbox p) in
    (a.0, ap (λ b. arrived_as (if b then frames.arrived_as (answer_to v.inbox p) else arrived.Foreign)) (eq-eqb p.source s real.0) ∙ a.1)
  where
    accepted : (a : Accept) → (answer : Reply) × (arrived_as (frames.arrived_as a) ≡ Some answer)
    accepted accept.Accepted = (reply.Accepted, refl)
    accepted accept.Repeated = (reply.Repeated, refl)
    accepted accept.Gap = (reply.Gap, refl)

-- an arrival
pub arrive_happens : (w : WorldValue) (s d i : ℕ) (v : Live) (frames : List Frame) (f : Frame) → Stands w → IsLive w d v → IsWire w s d frames
    → slice_get frames i ≡ Some f → (answer : Reply) × (w' : WorldValue) × ArriveFollows w s d i answer w'
arrive_happens w s d i v frames f t live wire there =
    let a = arrival_answers v.rank s f w.run d (t.run.packets s d i frames f wire there) in (
      a.0,
      with_rank w d (Some (record { rank = after_frame v.rank s f; left = v.left })),
      record {
        before = v;
        live = live;
        frames = frames;
        wire = wire;
        frame = f;
        there = there;
        answered = a.1;
        after = refl;
      },
    )

-- ---- a restart

-- the image that a rank has, or none
image_there : (w : WorldValue) (r : ℕ) → Stands w → r < size w → (o : Option ImageValue) × (slice_get w.images r ≡ Some o)
image_there w r t l =
    let n = t.run.as_many_images in
    (slice_index_or w.images r None, slice_get-get_or w.images r None (omega (arith, n, l)))

-- a rank that is down starts again
pub restart_happens : (w : WorldValue) (r : ℕ) → Stands w → IsStocked w → IsDown w r → (n : ℕ) × (w' : WorldValue) × RestartFollows w r (reply.Restarted n) w'
restart_happens w r t k down =
    let o = image_there w r t (slice_get_within w.ranks r None down) in
    let shelf = k.shelves r o.0 o.1 in
    let events = above 0 (row w.logger.rows r) in
    let image = begins_at w.program r (size w) o.0 in (
      length (left_of image events),
      record w {
        ranks = slice_set w.ranks r
            (Some (record { rank = restarted (stable_of (size w) r shelf.0) image (length events); left = left_of image events }));
        logger = state_after w.logger (next_call w.logger.history r (Fetch 0) (Events events));
      },
      record {
        down = down;
        events = events;
        fetches = record { replied = refl; logged = refl };
        image = image;
        begins = (o.0, o.1, refl);
        shelf = shelf.0;
        held = shelf.1;
        answered = refl;
        after = refl;
      },
    )
