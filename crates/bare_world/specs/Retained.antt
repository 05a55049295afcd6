-- Garbage collection of payload logs keeps what may still be needed, whatever senders dropped and
-- crashes took away. A sender keeps payloads in its memory until a checkpoint of the receiver has
-- them. The contracts of the world promise this after each event, beside the headline.
-- Source: MPICH-V2, Bouteiller and others 2003; garbage collection in message logging, Elnozahy and
-- others 2002.
use Rattle.std.specs.Prelude.{◌≡◌, ℕ, ◌<◌, ◌≤◌, ◌⊎◌, false, List, length, take, Some, slice_get}
use Rattle.checkpoint.specs.Image.{ImageValue}
use Rattle.matching.specs.PacketValue as packet
use Rattle.matching.specs.Inbox.{Mailbox, accepted_from}
use Rattle.payload_log.specs.Backlog.{BacklogValue, backlog}
use Rattle.rank_machine.specs.Acts.{Message, carried}
use Rattle.rank_node.specs.declared.frame.Frame.{Frame}
use Rattle.rank_node.specs.declared.frame.Frame.TheVariants as frame
use Rattle.crash_free.specs.Runs.{Passed, History, at_place, history, sent, taken, continue}
use Rattle.bare_world.specs.World.{Live, WorldValue, size, IsLive, IsWire, BeginsAt, covered}
use Rattle.bare_world.specs.Headline.{StandsFor}

-- s sent r this message as its kth in the run, and what r's last image had accepted from s doesn't
-- reach so far
pub record Needed (w : WorldValue) (C : List Passed) (s r k : ℕ) (m : Message) : Type 0 where
  pub to : r < size w
  pub there : at_place (sent C s r) k ≡ Some m
  pub above : covered w.images r s < k

-- the payload log keeps this message of rank s, whole, as its kth to r
pub record KeepsPacket (log : List BacklogValue) (s r k : ℕ) (m : Message) : Type 0 where
  pub packet : packet.PacketValue
  pub index : ℕ
  pub there : slice_get (backlog log r).kept index ≡ Some packet
  pub source : packet.source ≡ s
  pub number : packet.number ≡ k
  pub content : carried packet ≡ m

-- A rank s with this clock and this payload log has yet to make the act again that sends the
-- message, or it keeps its packet.
abbrev pub Retains : ℕ → List BacklogValue → ℕ → ℕ → ℕ → Message → Type 0
Retains clock log s r k m = (clock < m.clock) ⊎ KeepsPacket log s r k m

-- Of the messages that were sent to r in the run, the inbox accepted the first from each sender,
-- and of these it holds just those that these acts of r don't take, each once.
pub record Holds (C : List Passed) (r : ℕ) (acts : History) (box : Mailbox) : Type 0 where
  pub within : (s : ℕ) → accepted_from box s ≤ length (sent C s r)
  pub just : (i : ℕ) (p : packet.PacketValue) → slice_get box.packets i ≡ Some p
      → (1 ≤ p.number) × (p.number ≤ accepted_from box p.source) × (taken acts p.source p.number ≡ false)
      × (at_place (sent C p.source r) p.number ≡ Some (carried p))
  pub all : (s k : ℕ) → 1 ≤ k → k ≤ accepted_from box s → taken acts s k ≡ false
      → (i : ℕ) × (p : packet.PacketValue) × (slice_get box.packets i ≡ Some p) × (p.source ≡ s) × (p.number ≡ k)
  pub once : (i j : ℕ) (p q : packet.PacketValue) → slice_get box.packets i ≡ Some p → slice_get box.packets j ≡ Some q
      → p.source ≡ q.source → p.number ≡ q.number → i ≡ j

-- The world stands for the run, and nothing that is needed is gone: each message that the last
-- image of its receiver hadn't accepted is retained by its sender, if that is live, and by the
-- sender's image, or the beginning if it has none; each Kept on a wire names at most what the last
-- image of its sender accepted; inboxes hold what was accepted and isn't taken, in an image by the
-- acts of the run that it has made, and of a live rank by its first acts, as many as its clock
-- says, in the run that goes on by what the rank owes.
pub record NothingGone (w : WorldValue) (C : List Passed) : Type 0 where
  pub stands : StandsFor w C
  pub live : (s r k : ℕ) (m : Message) (v : Live) → Needed w C s r k m → IsLive w s v
      → Retains v.rank.clock v.rank.log s r k m
  pub images : (s r k : ℕ) (m : Message) (i : ImageValue) → Needed w C s r k m → BeginsAt w s i
      → Retains i.clock i.log s r k m
  pub kept : (r s k upto : ℕ) (frames : List Frame) → IsWire w r s frames → slice_get frames k ≡ Some (frame.Kept upto)
      → upto ≤ covered w.images r s
  pub live_inbox : (r : ℕ) (v : Live) (live : IsLive w r v)
      → Holds C r (take v.rank.clock (history (continue C r (stands.ranks r v live).acts) r)) v.rank.inbox
  pub image_inbox : (r : ℕ) (i : ImageValue) → BeginsAt w r i → Holds C r (take i.clock (history C r)) i.inbox
