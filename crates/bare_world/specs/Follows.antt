-- What each event of an adversarial execution does: it is one call on the rank that it names, and
-- the reply is that call's answer. A rank that replays answers some calls otherwise than one that
-- runs; a rank that is down only starts again.
-- Source: checkpoints and what outlives a crash, Elnozahy and others 2002, section 2.
use Rattle.std.specs.Prelude.{◌≡◌, ◌≢◌, ℕ, ℤ, ◌+◌, ◌<◌, ◌⊎◌, nat_le, List, [], ◌∷◌, ◌++◌, length, Option, Some, None, Ok, option_map}
use Rattle.std.specs.Prelude.{slice_get, slice_set, if◌then◌else◌}
use Rattle.checkpoint.specs.Image.{ImageValue}
use Rattle.checkpoint.specs.Shelf.{image_bytes}
use Rattle.checkpoint.specs.declared.memory_shelf.MemoryShelf.{MemoryShelf}
use Rattle.matching.specs.PacketValue as packet
use Rattle.payload_log.specs.Backlog.{backlog}
use Rattle.event_logger.specs.Sequential.Event.{EventValue}
use Rattle.event_logger.specs.Sequential.History.{Answers}
use Rattle.event_logger.specs.declared.sequential.call.Call.TheVariants.{Append, Fetch}
use Rattle.event_logger.specs.declared.sequential.call.Reply.TheVariants.{Length, Events}
use Rattle.rank_machine.specs.declared.want.Want.{Want}
use Rattle.rank_machine.specs.declared.want.Want.TheVariants as want
use Rattle.rank_machine.specs.Wants.{payload}
use Rattle.rank_machine.specs.Acts.{Act, sends, prints}
use Rattle.rank_machine.specs.Machine.{MachineValue, state_of, machine_want}
use Rattle.rank_node.specs.declared.turn.Turn.{Turn}
use Rattle.rank_node.specs.declared.turn.Turn.TheVariants as turn
use Rattle.rank_node.specs.declared.turn.Arrived.{Arrived}
use Rattle.rank_node.specs.declared.turn.Arrived.TheVariants as arrived
use Rattle.rank_node.specs.declared.frame.Frame.{Frame}
use Rattle.rank_node.specs.declared.frame.Frame.TheVariants as frame
use Rattle.rank_node.specs.declared.waiting.Waiting.{Waiting}
use Rattle.rank_node.specs.declared.waiting.Waiting.TheVariants as waits
use Rattle.rank_node.specs.Waiting.{is_settled, effect_clock}
use Rattle.rank_node.specs.Steps.{turn_of, refusal_of, MachineStep, after_step}
use Rattle.rank_node.specs.Frames.{outgoing_of, after_passed, arrival_of, after_frame}
use Rattle.rank_node.specs.Storing.{next_unstored, after_store, after_ack}
use Rattle.rank_node.specs.Releasing.{next_effect, after_release}
use Rattle.rank_node.specs.Image.{image_of, image_on, after_image}
use Rattle.rank_node.specs.Replay.{restarted, left_of, replay_turn_of, after_replay, left_after, ReplayStep}
use Rattle.matching.specs.declared.line.Line.{Line}
use Rattle.ports.specs.Console.{after_line}
use Rattle.crash_free.specs.Runs.{Passed, history, continue}
use Rattle.bare_world.specs.declared.event.WorldEvent.{WorldEvent}
use Rattle.bare_world.specs.declared.event.WorldEvent.TheVariants.{Step, Put, Arrive, Store, Ack, Image, Crash, Restart, Release}
use Rattle.bare_world.specs.declared.reply.Reply.{Reply}
use Rattle.bare_world.specs.declared.reply.Reply.TheVariants as reply
use Rattle.bare_world.specs.Rows.{Noted}
use Rattle.bare_world.specs.World.{Rank, Live, WorldValue, size, IsLive, IsDown, IsWire, BeginsAt}
use Rattle.bare_world.specs.Headline.{stable_of}

-- The event can't happen: a rank that it names isn't there; the rank that makes the call is down,
-- or for a restart isn't; there is nothing to put, to arrive, to store, to acknowledge or to
-- release; or its step is refused by name. A rank in replay has nothing to store, to acknowledge or
-- to release, takes no image, and its step is never refused.
abbrev pub CanNot : WorldValue → WorldEvent → Type 0
CanNot w (Step r) = (v : Live) → IsLive w r v → (v.left ≡ []) × (refusal_of v.rank ≢ None)
CanNot w (Put s d) = (v : Live) → IsLive w s v → d < size w → outgoing_of v.rank d ≡ None
CanNot w (Arrive s d i) = (v : Live) (frames : List Frame) (f : Frame) → IsLive w d v → IsWire w s d frames → slice_get frames i ≢ Some f
CanNot w (Store r) = (v : Live) → IsLive w r v → next_unstored v.rank ≡ None
CanNot w (Ack r) = (v : Live) → IsLive w r v → v.rank.stored ≡ 0
CanNot w (Image r) = (v : Live) → IsLive w r v → v.left ≡ [] → v.rank.pending ≢ []
CanNot w (Crash r) = (v : Live) → IsLive w r v → ⊥
CanNot w (Restart r) = IsDown w r → ⊥
CanNot w (Release r) = (v : Live) → IsLive w r v → v.left ≡ [] → next_effect v.rank ≡ None

-- the world with this rank, which is live or down, and all else as it was
abbrev pub with_rank : WorldValue → ℕ → Option Live → WorldValue
with_rank w r x = record w { ranks = slice_set w.ranks r x }

-- the reply to a step
abbrev pub stepped : Turn → Reply
stepped turn.Moved = reply.Moved
stepped turn.Blocked = reply.Blocked
stepped turn.Held = reply.Held
stepped turn.Ended = reply.Ended

-- the act that passes, if the turn made it
abbrev pub where_moved : Turn → Option Act → Option Act
where_moved turn.Moved passes = passes
where_moved turn.Blocked passes = None
where_moved turn.Held passes = None
where_moved turn.Ended passes = None

-- Output commit: a send or a print passes as soon as it is made if nothing waits; else it passes
-- when it is released.
abbrev pub at_once : Rank → Act → Option Act
at_once v act = if is_settled v.pending then Some act else None

-- what passes with a step: a send or a print at once; a reception, a hit and a miss pass when they
-- are stored
abbrev pub effect_at : Rank → Want → Turn → Option Act
effect_at v (want.Send dest context tag) t = where_moved t (at_once v (sends dest context tag (payload (state_of v.machine))))
effect_at v (want.Print value) t = where_moved t (at_once v (prints value))
effect_at v want.Internal t = None
effect_at v (want.Receive selector) t = None
effect_at v (want.Probe selector) t = None
effect_at v (want.TryProbe selector) t = None
effect_at v want.Halted t = None
effect_at v (want.Faulted fault) t = None

-- the run after an act of this clock passes, if one does: it goes on if the act passes for the
-- first time
abbrev pub passed_at : List Passed → ℕ → ℕ → Option Act → List Passed
passed_at C r clock None = C
passed_at C r clock (Some act) = if nat_le clock (length (history C r)) then C else record { rank = r; act = act } ∷ C

-- the lines after a print, if the turn made it: it is shown at once if nothing waits
abbrev pub shown_where_moved : List Line → ℕ → Rank → ℤ → Turn → List Line
shown_where_moved lines r v value turn.Moved = if is_settled v.pending then after_line lines r (v.clock + 1) value else lines
shown_where_moved lines r v value turn.Blocked = lines
shown_where_moved lines r v value turn.Held = lines
shown_where_moved lines r v value turn.Ended = lines

-- a print that passes at once is shown with its clock
abbrev pub lines_after : List Line → ℕ → Rank → Want → Turn → List Line
lines_after lines r v (want.Print value) t = shown_where_moved lines r v value t
lines_after lines r v want.Internal t = lines
lines_after lines r v (want.Send dest context tag) t = lines
lines_after lines r v (want.Receive selector) t = lines
lines_after lines r v (want.Probe selector) t = lines
lines_after lines r v (want.TryProbe selector) t = lines
lines_after lines r v want.Halted t = lines
lines_after lines r v (want.Faulted fault) t = lines

-- the world after a step of a rank to this value with these events left, by what it wanted and did;
-- a send or a print that the rank makes again passes no second time, and is shown no second time
abbrev pub after_turn : WorldValue → ℕ → Live → Turn → Rank → List EventValue → WorldValue
after_turn w r before t rank left = record w {
  ranks = slice_set w.ranks r (Some (record { rank = rank; left = left }));
  lines = lines_after w.lines r before.rank (machine_want before.rank.machine) t;
  run = passed_at w.run r (before.rank.clock + 1) (effect_at before.rank (machine_want before.rank.machine) t);
}

-- A step of a rank that replays nothing: the machine makes the step that it wants, unless it is
-- blocked or held or has ended.
pub record StepFollows (w : WorldValue) (r : ℕ) (answer : Reply) (w' : WorldValue) : Type 0 where
  pub before : Live
  pub live : IsLive w r before
  pub running : before.left ≡ []
  pub allowed : refusal_of before.rank ≡ None
  pub machine : MachineValue
  pub steps : MachineStep before.rank machine
  pub answered : answer ≡ stepped (turn_of before.rank)
  pub after : w' ≡ after_turn w r before (turn_of before.rank) (after_step before.rank machine) []

-- A step of a rank that replays: a reception or a hit is of the packet that the next event names,
-- and a miss misses.
pub record ReplayFollows (w : WorldValue) (r : ℕ) (answer : Reply) (w' : WorldValue) : Type 0 where
  pub before : Live
  pub live : IsLive w r before
  pub event : EventValue
  pub rest : List EventValue
  pub replaying : before.left ≡ event ∷ rest
  pub turn : Turn
  pub turned : replay_turn_of before.rank event ≡ Ok turn
  pub machine : MachineValue
  pub steps : ReplayStep before.rank event machine
  pub answered : answer ≡ stepped turn
  pub after : w'
      ≡ after_turn w r before turn (after_replay before.rank event machine) (left_after before.rank (machine_want before.rank.machine) turn event rest)

-- the reply to a frame that was put, by its index
abbrev pub put_as : ℕ → Frame → Reply
put_as index (frame.Data p) = reply.PutData index p.number
put_as index (frame.Ask from) = reply.PutAsk index from
put_as index (frame.Kept upto) = reply.PutKept index upto

-- What goes next from a rank is put: it goes last on the wire.
pub record PutFollows (w : WorldValue) (s d : ℕ) (answer : Reply) (w' : WorldValue) : Type 0 where
  pub before : Live
  pub live : IsLive w s before
  pub frame : Frame
  pub next : outgoing_of before.rank d ≡ Some frame
  pub of_s : List (List Frame)
  pub wires : slice_get w.wires s ≡ Some of_s
  pub frames : List Frame
  pub wire : slice_get of_s d ≡ Some frames
  pub answered : answer ≡ put_as (length frames) frame
  pub after : w' ≡ record w {
    ranks = slice_set w.ranks s (Some (record { rank = after_passed before.rank d; left = before.left }));
    wires = slice_set w.wires s (slice_set of_s d (frames ++ frame ∷ []));
  }

-- the reply to a frame that arrived; no frame on a wire is foreign
abbrev pub arrived_as : Arrived → Option Reply
arrived_as arrived.Accepted = Some reply.Accepted
arrived_as arrived.Repeated = Some reply.Repeated
arrived_as arrived.Gap = Some reply.Gap
arrived_as arrived.Noted = Some reply.Noted
arrived_as arrived.Foreign = None

-- A frame of the wire arrives; it stays on the wire.
pub record ArriveFollows (w : WorldValue) (s d i : ℕ) (answer : Reply) (w' : WorldValue) : Type 0 where
  pub before : Live
  pub live : IsLive w d before
  pub frames : List Frame
  pub wire : IsWire w s d frames
  pub frame : Frame
  pub there : slice_get frames i ≡ Some frame
  pub answered : arrived_as (arrival_of before.rank s frame) ≡ Some answer
  pub after : w' ≡ with_rank w d (Some (record { rank = after_frame before.rank s frame; left = before.left }))

-- The oldest unstored event is stored: it goes last in the rank's row, and its act passes.
pub record StoreFollows (w : WorldValue) (r : ℕ) (answer : Reply) (w' : WorldValue) : Type 0 where
  pub before : Live
  pub live : IsLive w r before
  pub event : EventValue
  pub oldest : next_unstored before.rank ≡ Some event
  pub count : ℕ
  pub answered : answer ≡ reply.Stored count
  pub appends : Answers w.logger r (Append event) (Length count) w'.logger
  pub acts : List Act
  pub noted : Noted w.run r acts event
  pub after : w' ≡ record w {
    ranks = slice_set w.ranks r (Some (record { rank = after_store before.rank; left = before.left }));
    logger = w'.logger;
    run = continue w.run r acts;
  }

-- The oldest stored event is acknowledged.
pub record AckFollows (w : WorldValue) (r : ℕ) (answer : Reply) (w' : WorldValue) : Type 0 where
  pub before : Live
  pub live : IsLive w r before
  pub some : before.rank.stored ≢ 0
  pub answered : answer ≡ reply.Acked
  pub after : w' ≡ with_rank w r (Some (record { rank = after_ack before.rank; left = before.left }))

-- the shelf of a rank holds this image, as it reads, or none
abbrev pub IsHeld : WorldValue → ℕ → MemoryShelf → Option ImageValue → Type 0
IsHeld w r shelf image = image_on w.program r (size w) (image_bytes shelf.image) ≡ image

-- The rank takes an image of itself (a checkpoint), which its shelf then holds in the place of an
-- older one, and word of it is due to those whose messages it has.
pub record ImageFollows (w : WorldValue) (r : ℕ) (answer : Reply) (w' : WorldValue) : Type 0 where
  pub before : Live
  pub live : IsLive w r before
  pub running : before.left ≡ []
  pub settled : before.rank.pending ≡ []
  pub shelf : MemoryShelf
  pub held : IsHeld w r shelf (Some (image_of before.rank))
  pub answered : answer ≡ reply.Imaged
  pub after : w' ≡ record w {
    ranks = slice_set w.ranks r (Some (record { rank = after_image before.rank (stable_of (size w) r shelf); left = [] }));
    images = slice_set w.images r (Some (image_of before.rank));
  }

-- The rank crashes (fail-stop): only what is stable outlives it.
pub record CrashFollows (w : WorldValue) (r : ℕ) (answer : Reply) (w' : WorldValue) : Type 0 where
  pub before : Live
  pub live : IsLive w r before
  pub answered : answer ≡ reply.Crashed
  pub after : w' ≡ with_rank w r None

-- The rank starts again: it fetches its row, and begins at its image, or at the beginning of the
-- program, with the events above that to replay. Its shelf holds what it held.
pub record RestartFollows (w : WorldValue) (r : ℕ) (answer : Reply) (w' : WorldValue) : Type 0 where
  pub down : IsDown w r
  pub events : List EventValue
  pub fetches : Answers w.logger r (Fetch 0) (Events events) w'.logger
  pub image : ImageValue
  pub begins : BeginsAt w r image
  pub shelf : MemoryShelf
  pub held : IsHeld w r shelf begins.0
  pub answered : answer ≡ reply.Restarted (length (left_of image events))
  pub after : w' ≡ record w {
    ranks = slice_set w.ranks r (Some (record { rank = restarted (stable_of (size w) r shelf) image (length events); left = left_of image events }));
    logger = w'.logger;
  }

-- the oldest held packet for a rank
abbrev pub oldest_held : Rank → ℕ → Option packet.PacketValue
oldest_held v dest = slice_get (backlog v.log dest).held 0

-- the send of a packet
abbrev pub send_of : ℕ → packet.PacketValue → Act
send_of dest p = sends dest p.context p.tag p.items

-- the act of an effect: a send of the packet that the payload log holds longest for its
-- destination, or a print
abbrev pub released_act : Rank → Waiting → Option Act
released_act v (waits.Send dest clock) = option_map (send_of dest) (oldest_held v dest)
released_act v (waits.Line clock value) = Some (prints value)
released_act v (waits.Event e) = None

-- a line that is released is shown with its clock
abbrev pub lines_released : List Line → ℕ → Waiting → List Line
lines_released lines r (waits.Line clock value) = after_line lines r clock value
lines_released lines r (waits.Send dest clock) = lines
lines_released lines r (waits.Event e) = lines

-- The oldest effect of what waits is released: its line is shown, or its packet goes to those that
-- may be transmitted, and its act passes.
pub record ReleaseFollows (w : WorldValue) (r : ℕ) (answer : Reply) (w' : WorldValue) : Type 0 where
  pub before : Live
  pub live : IsLive w r before
  pub effect : Waiting
  pub oldest : next_effect before.rank ≡ Some effect
  pub clock : ℕ
  pub of_it : effect_clock effect ≡ Some clock
  pub answered : answer ≡ reply.Released clock
  pub act : Act
  pub passes : released_act before.rank effect ≡ Some act
  pub after : w' ≡ record w {
    ranks = slice_set w.ranks r (Some (record { rank = after_release before.rank effect; left = before.left }));
    lines = lines_released w.lines r effect;
    run = passed_at w.run r clock (Some act);
  }

-- what an event that isn't refused does
abbrev pub Happens : WorldValue → WorldEvent → Reply → WorldValue → Type 0
Happens w (Step r) answer w' = StepFollows w r answer w' ⊎ ReplayFollows w r answer w'
Happens w (Put s d) answer w' = PutFollows w s d answer w'
Happens w (Arrive s d i) answer w' = ArriveFollows w s d i answer w'
Happens w (Store r) answer w' = StoreFollows w r answer w'
Happens w (Ack r) answer w' = AckFollows w r answer w'
Happens w (Image r) answer w' = ImageFollows w r answer w'
Happens w (Crash r) answer w' = CrashFollows w r answer w'
Happens w (Restart r) answer w' = RestartFollows w r answer w'
Happens w (Release r) answer w' = ReleaseFollows w r answer w'

-- What an event does: it is refused and leaves all as it was, if and only if it can't happen; else
-- it happens.
abbrev pub Follows : WorldValue → WorldEvent → Reply → WorldValue → Type 0
Follows w event reply.Refused w' = CanNot w event × (w' ≡ w)
Follows w event reply.Moved w' = Happens w event reply.Moved w'
Follows w event reply.Blocked w' = Happens w event reply.Blocked w'
Follows w event reply.Held w' = Happens w event reply.Held w'
Follows w event reply.Ended w' = Happens w event reply.Ended w'
Follows w event (reply.PutData index number) w' = Happens w event (reply.PutData index number) w'
Follows w event (reply.PutAsk index from) w' = Happens w event (reply.PutAsk index from) w'
Follows w event (reply.PutKept index upto) w' = Happens w event (reply.PutKept index upto) w'
Follows w event reply.Accepted w' = Happens w event reply.Accepted w'
Follows w event reply.Repeated w' = Happens w event reply.Repeated w'
Follows w event reply.Gap w' = Happens w event reply.Gap w'
Follows w event reply.Noted w' = Happens w event reply.Noted w'
Follows w event (reply.Stored count) w' = Happens w event (reply.Stored count) w'
Follows w event reply.Acked w' = Happens w event reply.Acked w'
Follows w event reply.Imaged w' = Happens w event reply.Imaged w'
Follows w event reply.Crashed w' = Happens w event reply.Crashed w'
Follows w event (reply.Restarted count) w' = Happens w event (reply.Restarted count) w'
Follows w event (reply.Released clock) w' = Happens w event (reply.Released clock) w'
