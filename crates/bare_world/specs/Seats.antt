-- The ranks of a world, by their numbers, and what the calls on one come to.
use Rattle.std.specs.Prelude.{◌≡◌, ◌≢◌, ◌<◌, ℕ, List, [], ◌∷◌, length, map, Option, Some, None, IsSomeAnd, slice_get, slice_set, Ok}
use Rattle.std.specs.Prelude.{Result, IfOk, OnErr, option_and_then}
use Rattle.std.specs.declared.alloc.AllocError.{AllocError}
use Rattle.checkpoint.specs.Image.{ImageValue}
use Rattle.checkpoint.specs.Shelf.{image_bytes}
use Rattle.checkpoint.specs.declared.memory_shelf.MemoryShelf.{MemoryShelf}
use Rattle.event_logger.specs.Sequential.Event.{EventValue}
use Rattle.event_logger.specs.Sequential.History.{StateValue, reply_of}
use Rattle.event_logger.specs.declared.sequential.call.Call.TheVariants.{Append}
use Rattle.event_logger.specs.declared.sequential.call.Reply.TheVariants.{Length}
use Rattle.rank_language.specs.Program.{ProgramValue}
use Rattle.rank_machine.specs.Machine.{MachineValue, machine_want}
use Rattle.rank_node.specs.declared.frame.Frame.{Frame}
use Rattle.rank_node.specs.declared.turn.Arrived.{Arrived}
use Rattle.rank_node.specs.declared.turn.Turn.{Turn}
use Rattle.rank_node.specs.Frames.{after_passed, arrival_of, after_frame}
use Rattle.rank_node.specs.Image.{begins_at, image_of, image_on, after_image, with_shelf}
use Rattle.rank_node.specs.Releasing.{next_effect, released, ShowsEffect}
use Rattle.rank_node.specs.Replay.{Replay, restarted, left_of, replay_turn_of, after_replay, left_after, ReplayStep, ShowsReplay}
use Rattle.rank_node.specs.Steps.{turn_of, MachineStep, after_step}
use Rattle.rank_node.specs.Storing.{next_unstored, after_store, after_ack, Appends}
use Rattle.rank_node.specs.Waiting.{effect_clock}
use Rattle.rank_machine.specs.Acts.{Act}
use Rattle.crash_free.specs.Runs.{Passed, continue}
use Rattle.matching.specs.declared.line.Line.{Line}
use Rattle.ports.specs.Console.{after_line}
use Rattle.bare_world.specs.Rows.{Noted}
use Rattle.bare_world.specs.World.{Rank, Live, WorldValue}
use Rattle.bare_world.specs.Headline.{stable_of, IsOpened}
use Rattle.bare_world.specs.Follows.{lines_after}

-- The seat of a rank, its process slot: the program, which rank of how many it is, its value if it
-- is live, and the image on its shelf, if there is one.
pub record SeatValue : Type 0 where
  pub program : ProgramValue
  pub rank : ℕ
  pub size : ℕ
  pub live : Option Live
  pub image : Option ImageValue

-- the seats of a program's ranks, in the order of their numbers
pub record SeatsValue : Type 0 where
  pub program : ProgramValue
  pub ranks : List (Option Live)
  pub images : List (Option ImageValue)

-- the seat is of this rank of so many of the program
pub record IsSeat (program : ProgramValue) (n r : ℕ) (s : SeatValue) : Type 0 where
  pub same_program : s.program ≡ program
  pub rank : s.rank ≡ r
  pub size : s.size ≡ n

-- each seat is of the rank whose number it has
abbrev pub AreSeats : ProgramValue → ℕ → List SeatValue → Type 0
AreSeats program n seats = (r : ℕ) (s : SeatValue) → slice_get seats r ≡ Some s → IsSeat program n r s

-- the ranks of seats
abbrev pub lives : List SeatValue → List (Option Live)
lives seats = map (λ s. s.live) seats

-- the images of seats
abbrev pub images : List SeatValue → List (Option ImageValue)
images seats = map (λ s. s.image) seats

-- the seat with this rank, which is live or down, and all else as it was
abbrev pub with_live : SeatValue → Option Live → SeatValue
with_live s x = record s { live = x }

-- the seat with this rank and this image, and all else as it was
abbrev pub with_both : SeatValue → Option Live → Option ImageValue → SeatValue
with_both s x image = record s { live = x; image = image }

-- The seat of a new rank: it is at the beginning of the program, and has no image.
pub record IsNew (program : ProgramValue) (n r : ℕ) (s : SeatValue) : Type 0 where
  pub seat : IsSeat program n r s
  pub opened : IsOpened program n r s.live
  pub image : s.image ≡ None

-- a rank at work, with nothing left to replay
abbrev pub at_work : Rank → Option Live
at_work v = Some (record { rank = v; left = [] })

-- a rank that replays
abbrev pub in_replay : Replay MemoryShelf (Unit {0}) → Option Live
in_replay r = Some (record { rank = r.node; left = r.left })

-- the rank is down, or it replays
abbrev pub IsNotAtWork : Option Live → Type 0
IsNotAtWork None = Unit {0}
IsNotAtWork (Some v) = v.left ≢ []

-- the rank doesn't replay: it is down, or nothing is left to replay
abbrev pub IsNotInReplay : Option Live → Type 0
IsNotInReplay None = Unit {0}
IsNotInReplay (Some v) = v.left ≡ []

-- the rank's replay goes on: its next event fits what its machine wants
abbrev pub IsFitting : Live → Type 0
IsFitting v = (event : EventValue) (rest : List EventValue) → v.left ≡ event ∷ rest → (turn : Turn) × (replay_turn_of v.rank event ≡ Ok turn)

-- the rank is live, and this holds of its value
abbrev pub IfLive : Option Live → (Live → Type 0) → Type 0
IfLive x P = IsSomeAnd x P

-- the rank of this number is live, and this holds of its value
abbrev pub AtRank : List (Option Live) → ℕ → (Live → Type 0) → Type 0
AtRank ranks r P = IsSomeAnd (slice_get ranks r) (λ x. IfLive x P)

-- the rank with this value, and the same left to replay
abbrev pub with_rank_value : Live → Rank → Option Live
with_rank_value v x = Some (record { rank = x; left = v.left })

-- The rank made a step, and its machine is then this one.
pub record IsStep (v : Live) (x : Option Live) (lines lines' : List Line) : Type 0 where
  pub machine : MachineValue
  pub steps : MachineStep v.rank machine
  pub after : x ≡ with_rank_value v (after_step v.rank machine)
  pub shown : lines' ≡ lines_after lines v.rank.stable.rank v.rank (machine_want v.rank.machine) (turn_of v.rank)

-- The rank replayed a step, and its machine is then this one.
pub record IsReplayed (v : Live) (turn : Turn) (x : Option Live) : Type 0 where
  pub event : EventValue
  pub rest : List EventValue
  pub replaying : v.left ≡ event ∷ rest
  pub turned : replay_turn_of v.rank event ≡ Ok turn
  pub machine : MachineValue
  pub steps : ReplayStep v.rank event machine
  pub after : x ≡ Some (record { rank = after_replay v.rank event machine; left = left_after v.rank (machine_want v.rank.machine) turn event rest })

-- the rank r of n started again at this image, or at the beginning of the program, with these
-- events in its row
pub record IsRestarted (program : ProgramValue) (n r : ℕ) (image : Option ImageValue) (row : List EventValue) (x : Option Live) : Type 0 where
  pub shelf : MemoryShelf
  pub after : x ≡ Some (record {
    rank = restarted (stable_of n r shelf) (begins_at program r n image) (length row);
    left = left_of (begins_at program r n image) row;
  })
  pub held : image_on program r n (image_bytes shelf.image) ≡ image

-- The rank r of n took an image of itself, which its shelf holds.
pub record IsImaged (program : ProgramValue) (n r : ℕ) (v : Live) (x : Option Live) (image : Option ImageValue) : Type 0 where
  pub shelf : MemoryShelf
  pub after : x ≡ with_rank_value v (after_image v.rank (with_shelf v.rank.stable shelf))
  pub taken : image ≡ Some (image_of v.rank)
  pub held : image_on program r n (image_bytes shelf.image) ≡ image

-- what was outgoing to this rank has gone
abbrev pub HasGone : ℕ → Live → Option Live → Type 0
HasGone dest v x = x ≡ with_rank_value v (after_passed v.rank dest)

-- a frame from this rank arrives, and this is answered
abbrev pub Arrives : ℕ → Frame → Arrived → Live → Option Live → Type 0
Arrives from frame answer v x = (answer ≡ arrival_of v.rank from frame) × (x ≡ with_rank_value v (after_frame v.rank from frame))

-- the oldest stored event is acknowledged
abbrev pub IsAcked : Live → Option Live → Type 0
IsAcked v x = (0 < v.rank.stored) × (x ≡ with_rank_value v (after_ack v.rank))

-- the oldest unstored event is stored in the rank's row, which is then so long
abbrev pub IsStored : StateValue → StateValue → ℕ → Live → Option Live → Type 0
IsStored logger logger' count v x =
    Appends (next_unstored v.rank) v.rank.stable.rank logger (Length count) logger' × (x ≡ with_rank_value v (after_store v.rank))

-- the oldest effect, of this clock, is released, and shown if it is a line
abbrev pub IsReleased : List Line → List Line → ℕ → Live → Option Live → Type 0
IsReleased lines lines' clock v x =
    (option_and_then effect_clock (next_effect v.rank) ≡ Some clock) × (x ≡ with_rank_value v (released v.rank (next_effect v.rank)))
    × ShowsEffect (λ old rank clock value new. new ≡ after_line old rank clock value) v.rank (next_effect v.rank) lines lines'

-- the rank makes a step, and this is answered
abbrev pub MakesStep : List Line → List Line → Turn → Live → Option Live → Type 0
MakesStep lines lines' turn v x = (turn ≡ turn_of v.rank) × IsStep v x lines lines'

-- the rank replays a step, this is answered, and a line of the step is shown if it is new
abbrev pub ReplaysStep : List Line → List Line → Turn → Live → Option Live → Type 0
ReplaysStep lines lines' turn v x =
    IsReplayed v turn x × ShowsReplay (λ old rank clock value new. new ≡ after_line old rank clock value) v.rank lines lines'

-- The rank of this number is live and changes so, and nothing else of the seats does.
pub record ChangesRank (old : SeatsValue) (r : ℕ) (new : SeatsValue) (change : Live → Option Live → Type 0) : Type 0 where
  pub rank : AtRank old.ranks r (λ v. (x : Option Live) × change v x × (new.ranks ≡ slice_set old.ranks r x))
  pub program : new.program ≡ old.program
  pub images : new.images ≡ old.images

-- A call on the rank of this number: it changes as is answered, and nothing else of the seats does.
-- If memory is refused nothing changes, and this holds of the rank.
pub record CallsRank {A : Type 0} (old : SeatsValue) (r : ℕ) (result : Result A AllocError) (new : SeatsValue)
    (change : A → Live → Option Live → Type 0) (asks : Live → Type 0) : Type 0 where
  pub ok : IfOk result (λ answer. ChangesRank old r new (change answer))
  pub memory : OnErr result (AtRank old.ranks r asks)
  pub err : OnErr result (new ≡ old)

-- The rank of this number, live or down, was put in its place, and nothing else of the seats changed.
pub record SetsRank (old : SeatsValue) (r : ℕ) (x : Option Live) (new : SeatsValue) : Type 0 where
  pub ranks : new.ranks ≡ slice_set old.ranks r x
  pub program : new.program ≡ old.program
  pub images : new.images ≡ old.images

-- The rank of this number started again at its image, or at the beginning of the program, so many
-- events of its row are left to replay, and nothing else of the seats changed.
pub record RestartsRank (old : SeatsValue) (r : ℕ) (row : List EventValue) (new : SeatsValue) (count : ℕ) : Type 0 where
  pub counted : IsSomeAnd (slice_get old.images r) (λ image. count ≡ length (left_of (begins_at old.program r (length old.ranks) image) row))
  pub rank : IsSomeAnd (slice_get old.images r) (λ image.
      (x : Option Live) × IsRestarted old.program (length old.ranks) r image row x × (new.ranks ≡ slice_set old.ranks r x))
  pub program : new.program ≡ old.program
  pub images : new.images ≡ old.images

-- The rank of this number took an image of itself, and nothing else of the seats changed.
pub record TakesImage (old : SeatsValue) (r : ℕ) (new : SeatsValue) : Type 0 where
  pub rank : AtRank old.ranks r (λ v. (x : Option Live) × (image : Option ImageValue) × IsImaged old.program (length old.ranks) r v x image
      × (new.ranks ≡ slice_set old.ranks r x) × (new.images ≡ slice_set old.images r image))
  pub program : new.program ≡ old.program

-- there is an event, and the logger accepts it
abbrev pub IsAccepted : StateValue → ℕ → Option EventValue → Type 0
IsAccepted logger r None = ⊥
IsAccepted logger r (Some e) = (count : ℕ) × (reply_of logger.rows r (Append e) ≡ Length count)

-- the world with this run, and all else as it was
abbrev pub with_run : WorldValue → List Passed → WorldValue
with_run w C = record w { run = C }

-- The run went on by the acts that an event of a rank stands for, which are so many.
pub record NotedAs (C : List Passed) (r : ℕ) (e : EventValue) (count : ℕ) (C' : List Passed) : Type 0 where
  pub acts : List Act
  pub noted : Noted C r acts e
  pub after : C' ≡ continue C r acts
  pub as_many : count ≡ length acts
