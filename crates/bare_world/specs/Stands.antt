-- The invariant behind the headline: how ranks, inboxes, payload logs and images of a world go with
-- the run, and what senders may drop. What goes with the run is said of the world without runs of
-- misses, in which each event is of one act. That the world stands for its run, and that nothing
-- needed is gone, follow from it.
use Rattle.std.specs.Prelude.{◌≡◌, ℕ, ◌+◌, ◌<◌, ◌≤◌, ◌⊎◌, true, false, List, [], ◌∷◌, length, take, drop, Option, Some, None, slice_get}
use Rattle.event_logger.specs.Sequential.Event.{EventValue}
use Rattle.matching.specs.PacketValue as packet
use Rattle.matching.specs.Inbox.{Mailbox, accepted_from}
use Rattle.payload_log.specs.Backlog.{BacklogValue}
use Rattle.rank_machine.specs.States.{State, Inners, opening}
use Rattle.rank_machine.specs.Acts.{Act, Message, sends, takes, hits, misses, prints, carried, Runs}
use Rattle.rank_machine.specs.Machine.{MachineValue, state_of}
use Rattle.rank_node.specs.declared.due.Due.{Due}
use Rattle.rank_node.specs.declared.frame.Frame.{Frame}
use Rattle.rank_node.specs.declared.frame.Frame.TheVariants as frame
use Rattle.crash_free.specs.Runs.{Passed, History, at_place, history, sent, printed, taken, send_at, sends_from, looked_up, MayMake, IsRun, continue}
use Rattle.bare_world.specs.Rows.{row, event_at, events_from}
use Rattle.bare_world.specs.World.{Live, unpassed, WorldValue, size, IsLive, IsWire, covered}
use Rattle.rank_node.specs.declared.waiting.Waiting.{Waiting}
use Rattle.rank_node.specs.Waiting.{BeginsWithEvents}
use Rattle.rank_node.specs.declared.waiting.Waiting.TheVariants as waits
use Rattle.bare_world.specs.Headline.{IsReal, lines_of}
use Rattle.checkpoint.specs.Image.{ImageValue}
use Rattle.rank_node.specs.Image.{begins_at}
use Rattle.bare_world.specs.Counts.{Counts}
use Rattle.bare_world.specs.Misses.{IsShown, MissesNoneShown, NoneMissed}
use Rattle.bare_world.specs.Plain.{without_runs, RunsOfMisses}

-- The inbox of a rank with this history, to which each sender sent what is inbound: each packet is
-- what was sent under its number, isn't taken and was accepted; what was accepted and isn't taken
-- is there, in the order of its numbers; and what was taken or shown was accepted.
pub record InboxStands (box : Mailbox) (inbound : ℕ → List Message) (h : History) : Type 0 where
  pub real : (k : ℕ) (p : packet.PacketValue) → slice_get box.packets k ≡ Some p → at_place (inbound p.source) p.number ≡ Some (carried p)
  pub untaken : (k : ℕ) (p : packet.PacketValue) → slice_get box.packets k ≡ Some p → taken h p.source p.number ≡ false
  pub accepted : (k : ℕ) (p : packet.PacketValue) → slice_get box.packets k ≡ Some p → p.number ≤ accepted_from box p.source
  pub each : (s j : ℕ) → 1 ≤ j → j ≤ accepted_from box s → taken h s j ≡ false
      → (k : ℕ) × (p : packet.PacketValue) × (slice_get box.packets k ≡ Some p) × (p.source ≡ s) × (p.number ≡ j)
  pub rising : (k l : ℕ) (p q : packet.PacketValue) → k < l → slice_get box.packets k ≡ Some p → slice_get box.packets l ≡ Some q
      → p.source ≡ q.source → p.number < q.number
  pub taken_accepted : (s j : ℕ) → taken h s j ≡ true → j ≤ accepted_from box s
  pub shown_accepted : (s j : ℕ) → IsShown h s j → j ≤ accepted_from box s
  pub within : (s : ℕ) → accepted_from box s ≤ length (inbound s)

-- the packet of the message that rank r sent as its jth to some rank
abbrev pub packet_of : ℕ → ℕ → Message → packet.PacketValue
packet_of r j m = record { source = r; clock = m.clock; number = j; context = m.context; tag = m.tag; items = m.items }

-- the packets of messages before which k were sent
abbrev pub packets_from : ℕ → ℕ → List Message → List packet.PacketValue
packets_from r k [] = []
packets_from r k (m ∷ ms) = packet_of r (k + 1) m ∷ packets_from r (k + 1) ms

-- The payload log of rank r for one destination, to which it sent these messages, and then these
-- that wait: it counts the first, and keeps just those above its base; it holds the others.
pub record LogStands (r : ℕ) (messages later : List Message) (b : BacklogValue) : Type 0 where
  pub sent : b.sent ≡ length messages
  pub kept : b.kept ≡ drop b.base (packets_from r 0 messages)
  pub held : b.held ≡ packets_from r (length messages) later

-- the messages of the sends to d among acts, before which the sender had made k
abbrev pub sends_of : ℕ → ℕ → List Act → List Message
sends_of k d [] = []
sends_of k d (a ∷ acts) = send_at (k + 1) d a (sends_of (k + 1) d acts)

-- The payload log of a rank that has made the first c of its acts in the run, and these after the
-- run.
abbrev pub LogsStand : ℕ → History → ℕ → List Act → List BacklogValue → Type 0
LogsStand r h c acts log = (d : ℕ) (b : BacklogValue) → slice_get log d ≡ Some b → LogStands r (sends_from 0 d (take c h)) (sends_of (length h) d acts) b

-- A rank r of n, or an image of it, to which others sent what is inbound, has made the first c acts
-- of a history: its machine and its inbox are where these have led them.
pub record StandsIn (start : State) (n r : ℕ) (inbound : ℕ → List Message) (h : History) (c : ℕ) (m : MachineValue) (box : Mailbox)
    (log : List BacklogValue) : Type 0 where
  pub within : c ≤ length h
  pub after : State
  pub reached : Runs start (take c h) after
  pub inner : Inners after (state_of m)
  pub counted : length box.accepted ≡ n
  pub logged : length log ≡ n
  pub inbox : InboxStands box inbound (take c h)

-- an image of rank r goes with the run: nothing in it is pending, so it is at or behind the run
pub record ImageStands (start : ℕ → State) (n : ℕ) (C : List Passed) (r : ℕ) (i : ImageValue) : Type 0 where
  pub at : StandsIn (start r) n r (λ s. sent C s r) (history C r) i.clock i.machine i.inbox i.log
  pub logs : LogsStand r (history C r) i.clock [] i.log

-- this act, made after the run, is what waits
abbrev pub IsFor : List Passed → ℕ → Act → Waiting → Type 0
IsFor C r a (waits.Event e) = event_at (length (history C r) + 1) a (looked_up (λ s. sent C s r) a) ≡ Some e
IsFor C r (sends d context tag items) (waits.Send dest clock) = (d ≡ dest) × (clock ≡ length (history C r) + 1)
IsFor C r (takes source place) (waits.Send dest clock) = ⊥
IsFor C r (hits source place) (waits.Send dest clock) = ⊥
IsFor C r misses (waits.Send dest clock) = ⊥
IsFor C r (prints x) (waits.Send dest clock) = ⊥
IsFor C r (prints x) (waits.Line clock value) = (x ≡ value) × (clock ≡ length (history C r) + 1)
IsFor C r (sends d context tag items) (waits.Line clock value) = ⊥
IsFor C r (takes source place) (waits.Line clock value) = ⊥
IsFor C r (hits source place) (waits.Line clock value) = ⊥
IsFor C r misses (waits.Line clock value) = ⊥

-- after a run a rank may go on by these acts alone, and these are what waits; none of them misses
-- what the rank was shown
abbrev pub Pending : (ℕ → State) → List Passed → ℕ → List Act → List Waiting → Type 0
Pending start C r [] [] = Unit {0}
Pending start C r (a ∷ acts) (x ∷ xs) =
    MayMake (start r) (λ s. sent C s r) (history C r) a × IsFor C r a x × Pending start (record { rank = r; act = a } ∷ C) r acts xs
    × MissesNoneShown start C r a
Pending start C r [] (x ∷ xs) = ⊥
Pending start C r (a ∷ acts) [] = ⊥

-- A live rank goes with the run. What waits is of acts that it may make after the run. If something
-- is pending, even if it is stored, the rank has made all of the run's acts and these; else it may
-- be behind the run, and makes the run's acts again: the events among them are what is left to
-- replay, so if nothing is left they are sends and prints only.
pub record RankStands (start : ℕ → State) (n : ℕ) (C : List Passed) (r : ℕ) (v : Live) : Type 0 where
  pub number : v.rank.stable.rank ≡ r
  pub size : v.rank.stable.size ≡ n
  pub acts : List Act
  pub pending : Pending start C r acts (unpassed v.rank)
  pub stored : BeginsWithEvents v.rank.stored v.rank.pending
  pub all_made : (v.rank.pending ≡ []) ⊎ (v.rank.clock ≡ length (history (continue C r acts) r))
  pub left : v.left ≡ events_from v.rank.clock (drop v.rank.clock (history (continue C r acts) r))
  pub logs : LogsStand r (history C r) v.rank.clock acts v.rank.log
  pub at : StandsIn (start r) n r (λ s. sent C s r) (history (continue C r acts) r) v.rank.clock v.rank.machine v.rank.inbox v.rank.log

-- the state in which a rank of n begins
abbrev pub start_at : WorldValue → ℕ → ℕ → State
start_at w n r = opening w.program r n

-- how a world of n ranks goes with its run
pub record StandsAt (n : ℕ) (w : WorldValue) : Type 0 where
  pub is_run : IsRun (start_at w n) n w.run
  pub missed : NoneMissed (start_at w n) w.run
  pub as_many_rows : length w.logger.rows ≡ n
  pub rows : (r : ℕ) (events : List EventValue) → slice_get w.logger.rows r ≡ Some events → events ≡ row w.run r
  pub as_many_wires : length w.wires ≡ n
  pub wires_to_all : (s : ℕ) (of_s : List (List Frame)) → slice_get w.wires s ≡ Some of_s → length of_s ≡ n
  pub packets : (s d k : ℕ) (frames : List Frame) (f : Frame) → IsWire w s d frames → slice_get frames k ≡ Some f → IsReal w.run s d f
  pub lines : (r : ℕ) → lines_of r w.lines ≡ printed w.run r
  pub as_many_images : length w.images ≡ n
  pub images : (r : ℕ) (o : Option ImageValue) → slice_get w.images r ≡ Some o → ImageStands (start_at w n) n w.run r (begins_at w.program r n o)
  pub ranks : (r : ℕ) (v : Live) → IsLive w r v → RankStands (start_at w n) n w.run r v

-- ---- what senders may drop; nothing here names the run

-- no base is above what the image of its destination had accepted
abbrev pub BasesCovered : List (Option ImageValue) → ℕ → List BacklogValue → Type 0
BasesCovered images s log = (d : ℕ) (b : BacklogValue) → slice_get log d ≡ Some b → b.base ≤ covered images d s

-- a Kept names at most what the image of its sender had accepted
abbrev pub KeptCovered : List (Option ImageValue) → ℕ → ℕ → Frame → Type 0
KeptCovered images r s (frame.Kept upto) = upto ≤ covered images r s
KeptCovered images r s (frame.Data packet) = Unit {0}
KeptCovered images r s (frame.Ask from) = Unit {0}

-- a Kept that is due to s, if one is, names at most what the image of its sender had accepted
abbrev pub DueCovered : List (Option ImageValue) → ℕ → ℕ → Option ℕ → Type 0
DueCovered images r s None = Unit {0}
DueCovered images r s (Some upto) = upto ≤ covered images r s

-- a live rank drops nothing that is needed, tells no one to, and has accepted at least what its own
-- image had
pub record RankCovers (images : List (Option ImageValue)) (r : ℕ) (v : Live) : Type 0 where
  pub bases : BasesCovered images r v.rank.log
  pub dues : (d : ℕ) (due : Due) → slice_get v.rank.dues d ≡ Some due → DueCovered images r d due.kept
  pub since : (s : ℕ) → covered images r s ≤ accepted_from v.rank.inbox s

-- no payload log, be it a live rank's or an image's, lacks what a restart may need, and no Kept
-- lets one drop it
pub record Covers (w : WorldValue) : Type 0 where
  pub images : (s : ℕ) (i : ImageValue) → slice_get w.images s ≡ Some (Some i) → BasesCovered w.images s i.log
  pub wires : (r s k : ℕ) (frames : List Frame) (f : Frame) → IsWire w r s frames → slice_get frames k ≡ Some f → KeptCovered w.images r s f
  pub ranks : (r : ℕ) (v : Live) → IsLive w r v → RankCovers w.images r v

-- The invariant of a world.
pub record Stands (w : WorldValue) : Type 0 where
  pub run : StandsAt (size w) (without_runs w)
  pub covers : Covers w
  pub counts : Counts w
  pub runs : RunsOfMisses w
