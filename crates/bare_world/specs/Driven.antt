-- A world that is driven along a recovery schedule: what it is like beside the world at the start,
-- and what holds of it.
use Rattle.std.specs.Prelude.{◌≡◌, ℕ, ◌+◌, ◌<◌, ◌≤◌, ◌⊎◌, ◌++◌, List, [], ◌∷◌, length, Option, Some, None, slice_get, slice_index_or, max, Bool, true, false}
use Rattle.std.specs.Prelude.{if◌then◌else◌}
use Rattle.checkpoint.specs.declared.memory_shelf.MemoryShelf.{MemoryShelf}
use Rattle.matching.specs.Inbox.{accepted_from}
use Rattle.payload_log.specs.Backlog.{backlog}
use Rattle.rank_node.specs.declared.frame.Frame.{Frame}
use Rattle.rank_node.specs.declared.frame.Frame.TheVariants as frame
use Rattle.rank_node.specs.Frames.{due_to, outgoing_of}
use Rattle.rank_node.specs.Image.{with_shelf}
use Rattle.rank_machine.specs.Acts.{Act}
use Rattle.crash_free.specs.Runs.{Passed, history}
use Rattle.bare_world.specs.declared.event.WorldEvent.{WorldEvent}
use Rattle.bare_world.specs.declared.event.WorldEvent.TheVariants.{Step, Put, Arrive, Store, Ack, Image, Crash, Restart, Release}
use Rattle.bare_world.specs.declared.reply.Reply.{Reply}
use Rattle.bare_world.specs.declared.reply.Reply.TheVariants as reply
use Rattle.bare_world.specs.World.{Rank, Live, WorldValue, size, IsLive, IsWire}
use Rattle.bare_world.specs.Follows.{CanNot, Happens}
use Rattle.bare_world.specs.Onward.{Behind, IsWorld}
use Rattle.crash_free.specs.Points.{first_acts}
use Rattle.bare_world.specs.Measures.{RankNears}
use Rattle.bare_world.specs.Way.{IsOwn}

-- ---- worlds that are alike

-- the rank with this shelf, and all else as it was
abbrev pub on_shelf : Rank → MemoryShelf → Rank
on_shelf v shelf = record v { stable = with_shelf v.stable shelf }

-- a live rank with this shelf
abbrev pub shelved : Live → MemoryShelf → Live
shelved v shelf = record { rank = on_shelf v.rank shelf; left = v.left }

-- a rank is the other, on a shelf of its own
abbrev pub IsAlike : Option Live → Option Live → Type 0
IsAlike None None = Unit {0}
IsAlike None (Some v) = ⊥
IsAlike (Some u) None = ⊥
IsAlike (Some u) (Some v) = (shelf : MemoryShelf) × (v ≡ shelved u shelf)

-- each rank is the other, on a shelf of its own
abbrev pub AreAlike : List (Option Live) → List (Option Live) → Type 0
AreAlike [] [] = Unit {0}
AreAlike [] (y ∷ ys) = ⊥
AreAlike (x ∷ xs) [] = ⊥
AreAlike (x ∷ xs) (y ∷ ys) = IsAlike x y × AreAlike xs ys

-- Two worlds are the same except for the shelves themselves, whose images are the same, and the
-- logger's history.
pub record Alike (a b : WorldValue) : Type 0 where
  pub program : b.program ≡ a.program
  pub ranks : AreAlike a.ranks b.ranks
  pub images : b.images ≡ a.images
  pub rows : b.logger.rows ≡ a.logger.rows
  pub wires : b.wires ≡ a.wires
  pub lines : b.lines ≡ a.lines
  pub run : b.run ≡ a.run

-- ---- the way that a world was driven

-- a recovery schedule is made of these alone
abbrev pub IsUsed : WorldEvent → Type 0
IsUsed (Step r) = Unit {0}
IsUsed (Put s d) = Unit {0}
IsUsed (Arrive s d i) = Unit {0}
IsUsed (Store r) = ⊥
IsUsed (Ack r) = ⊥
IsUsed (Image r) = ⊥
IsUsed (Crash r) = ⊥
IsUsed (Restart r) = Unit {0}
IsUsed (Release r) = ⊥

-- these events happened one after another: each is used by recovery, is its own, and could happen
abbrev pub Drove : WorldValue → WorldValue → List WorldEvent → WorldValue → Type 0
Drove start w [] w' = w' ≡ w
Drove start w (event ∷ events) w' =
    IsUsed event × IsOwn start w event × (CanNot w event → ⊥)
    × ((answer : Reply) × (mid : WorldValue) × Happens w event answer mid × Drove start mid events w')

-- no wire has fewer frames than at the start
abbrev pub AreLonger : WorldValue → WorldValue → Type 0
AreLonger start w = (s d : ℕ) (old frames : List Frame) → IsWire start s d old → IsWire w s d frames → length old ≤ length frames

-- A world that was driven by these events from one like the start: it is a world, and its run is
-- the one at the start.
pub record Driven (start : WorldValue) (events : List WorldEvent) (w : WorldValue) : Type 0 where
  pub first : WorldValue
  pub alike : Alike start first
  pub drove : Drove start first events w
  pub is_world : IsWorld w
  pub same_run : w.run ≡ start.run
  pub same_size : size w ≡ size start
  pub longer : AreLonger start w

-- ---- what holds on the way

-- every rank is live
abbrev pub AllLive : WorldValue → Type 0
AllLive w = (r : ℕ) → r < size w → (v : Live) × IsLive w r v

-- No message that a rank behind the run may lack was passed by: for these pairs, the cursor of the
-- one stands at most at the next that the other accepts.
abbrev pub NoGapsIn : (ℕ → ℕ → Type 0) → WorldValue → Type 0
NoGapsIn P w = (s d : ℕ) (u v : Live) → P s d → IsLive w s u → IsLive w d v → Behind w.run d v
    → (backlog u.rank.log d).cursor ≤ accepted_from v.rank.inbox s + 1

-- no message that a rank behind the run may lack was passed by, for all pairs of ranks
abbrev pub NoGaps : WorldValue → Type 0
NoGaps w = NoGapsIn (λ s d. Unit {0}) w

-- for these pairs, a rank behind the run has accepted all that the other has sent it
abbrev pub DrainedIn : (ℕ → ℕ → Type 0) → WorldValue → Type 0
DrainedIn P w = (s d : ℕ) (u v : Live) → P s d → IsLive w s u → IsLive w d v → Behind w.run d v
    → (backlog u.rank.log d).sent ≤ accepted_from v.rank.inbox s

-- each rank behind the run has accepted all that any other has sent it
abbrev pub Drained : WorldValue → Type 0
Drained w = DrainedIn (λ s d. Unit {0}) w

-- a rank behind the run has accepted all that one other has sent it
abbrev pub DrainedFrom : ℕ → ℕ → WorldValue → Type 0
DrainedFrom s d w = DrainedIn (λ a b. (a ≡ s) × (b ≡ d)) w

-- no Ask is due from a rank to another
abbrev pub NoAskDue : ℕ → ℕ → WorldValue → Type 0
NoAskDue r s w = (v : Live) → IsLive w r v → (due_to v.rank s).ask ≡ None

-- Each of the first k frames on the wire from r to s that is an Ask was heard: what s transmits
-- next to r is no later than it asks for, or the first that is kept.
abbrev pub HeardTo : ℕ → ℕ → ℕ → WorldValue → Type 0
HeardTo k r s w = (i from : ℕ) (frames : List Frame) (u : Live) → i < k → IsWire w r s frames → slice_get frames i ≡ Some (frame.Ask from) → IsLive w s u
    → (backlog u.rank.log r).cursor ≤ max ((backlog u.rank.log r).base + 1) from

-- each frame on the wire from r to s that is an Ask was heard
abbrev pub Heard : ℕ → ℕ → WorldValue → Type 0
Heard r s w = (k : ℕ) → HeardTo k r s w

-- the ranks below k are live
abbrev pub LiveTo : ℕ → WorldValue → Type 0
LiveTo k w = (r : ℕ) → r < k → r < size w → (v : Live) × IsLive w r v

-- The earlier acts of the run were gone through: every rank has made its own among them. A run is
-- newest act first.
pub record Through (w : WorldValue) (early : List Passed) : Type 0 where
  pub late : List Passed
  pub parts : w.run ≡ late ++ early
  pub made : (r : ℕ) (v : Live) → IsLive w r v → length (history early r) ≤ v.rank.clock

-- where recovery stands after the earlier acts of the run were gone through
pub record Ready (w : WorldValue) (early : List Passed) : Type 0 where
  pub is_world : IsWorld w
  pub all_live : AllLive w
  pub no_gaps : NoGaps w
  pub drained : Drained w
  pub through : Through w early

-- What frames that are put and arrive at once leave as it was.
pub record FlushKeeps (w w' : WorldValue) : Type 0 where
  pub all_live : AllLive w → AllLive w'
  pub no_gaps : NoGaps w → NoGaps w'
  pub drained : (s d : ℕ) → DrainedFrom s d w → DrainedFrom s d w'
  pub asks : (r s : ℕ) → NoAskDue r s w → NoAskDue r s w'
  pub through : (early : List Passed) → Through w early → Through w' early

-- The act that came next was made: what its rank has sent since may not have arrived.
pub record Made (w : WorldValue) (p : Passed) (early : List Passed) : Type 0 where
  pub is_world : IsWorld w
  pub all_live : AllLive w
  pub no_gaps : NoGaps w
  pub drained : DrainedIn (λ s d. s ≡ p.rank → ⊥) w
  pub through : Through w (p ∷ early)

-- What an Ask that arrives leaves as it was.
pub record HearKeeps (w w' : WorldValue) : Type 0 where
  pub wires : w'.wires ≡ w.wires
  pub all_live : AllLive w → AllLive w'
  pub asks : (r s : ℕ) → NoAskDue r s w → NoAskDue r s w'
  pub heard : (k r s : ℕ) → HeardTo k r s w → HeardTo k r s w'

-- ---- what the calls of the way come to

-- the event was refused
abbrev pub is_refused : Reply → Bool
is_refused reply.Refused = true
is_refused reply.Moved = false
is_refused reply.Blocked = false
is_refused reply.Held = false
is_refused reply.Ended = false
is_refused (reply.PutData index number) = false
is_refused (reply.PutAsk index from) = false
is_refused (reply.PutKept index upto) = false
is_refused reply.Accepted = false
is_refused reply.Repeated = false
is_refused reply.Gap = false
is_refused reply.Noted = false
is_refused (reply.Stored count) = false
is_refused reply.Acked = false
is_refused reply.Imaged = false
is_refused reply.Crashed = false
is_refused (reply.Restarted count) = false
is_refused (reply.Released clock) = false

-- an event that isn't refused goes last on the list
abbrev pub listed : List WorldEvent → WorldEvent → Reply → List WorldEvent
listed events event answer = if is_refused answer then events else events ++ event ∷ []

-- the index of a frame that was put
abbrev pub index_of : Reply → Option ℕ
index_of reply.Refused = None
index_of reply.Moved = None
index_of reply.Blocked = None
index_of reply.Held = None
index_of reply.Ended = None
index_of (reply.PutData index number) = Some index
index_of (reply.PutAsk index from) = Some index
index_of (reply.PutKept index upto) = Some index
index_of reply.Accepted = None
index_of reply.Repeated = None
index_of reply.Gap = None
index_of reply.Noted = None
index_of (reply.Stored count) = None
index_of reply.Acked = None
index_of reply.Imaged = None
index_of reply.Crashed = None
index_of (reply.Restarted count) = None
index_of (reply.Released clock) = None

-- The world is still one, of as many ranks and the same run, and was driven on by what the list has
-- got.
pub record Advanced (w : WorldValue) (events : List WorldEvent) (w' : WorldValue) (events' : List WorldEvent) : Type 0 where
  pub is_world : IsWorld w'
  pub same_size : size w' ≡ size w
  pub same_run : w'.run ≡ w.run
  pub driven : (start : WorldValue) → Driven start events w → Driven start events' w'

-- Frames were put and arrived at once.
pub record Flushed (w : WorldValue) (events : List WorldEvent) (w' : WorldValue) (events' : List WorldEvent) : Type 0 where
  pub advanced : Advanced w events w' events'
  pub keeps : FlushKeeps w w'

-- nothing is outgoing from a rank to another
abbrev pub IsGone : ℕ → ℕ → WorldValue → Type 0
IsGone s d w = (u : Live) → IsLive w s u → outgoing_of u.rank d ≡ None

-- what went from a rank to another has gone: no Ask is due, and if there was no gap the pair is
-- drained
pub record Emptied (s d : ℕ) (w w' : WorldValue) : Type 0 where
  pub asks : NoAskDue s d w'
  pub drained : NoGaps w → DrainedFrom s d w'

-- Asks arrived.
pub record Listened (w : WorldValue) (events : List WorldEvent) (w' : WorldValue) (events' : List WorldEvent) : Type 0 where
  pub advanced : Advanced w events w' events'
  pub keeps : HearKeeps w w'

-- the act after the first k of a run, which is of this rank, was made
abbrev pub MadeAt : List Passed → ℕ → ℕ → WorldValue → Type 0
MadeAt C k r w = (a : Act) × (first_acts (k + 1) C ≡ record { rank = r; act = a } ∷ first_acts k C) × Made w (record { rank = r; act = a }) (first_acts k C)

-- the act after the first k of a run was made, or is the next, fewer steps of its rank's own ahead
-- than n
abbrev pub IsNear : List Passed → ℕ → ℕ → ℕ → WorldValue → Type 0
IsNear C k r n w = (Ready w (first_acts k C) × RankNears n r w) ⊎ MadeAt C k r w

-- these count the acts of each of n ranks in the earlier part of a run
pub record IsCounted (n : ℕ) (early : List Passed) (counts : List ℕ) : Type 0 where
  pub width : length counts ≡ n
  pub count : (r : ℕ) → r < n → slice_index_or counts r 0 ≡ length (history early r)

-- whether a frame is an Ask
abbrev pub IsAsk : Frame → Bool → Type 0
IsAsk x true = (n : ℕ) × (x ≡ frame.Ask n)
IsAsk x false = (n : ℕ) → x ≡ frame.Ask n → ⊥

-- whether the frame of this index is an Ask
abbrev pub IsAskAt : List Frame → ℕ → Bool → Type 0
IsAskAt frames i b = (x : Frame) × (slice_get frames i ≡ Some x) × IsAsk x b
