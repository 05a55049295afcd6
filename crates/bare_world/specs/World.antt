-- A world as contracts see it, which is an adversarial execution of a program: its ranks, their
-- checkpoints (images), the event logger, the wires (channels that may lose, repeat and reorder),
-- the console, and the crash-free execution that it stands for (the run).
use Rattle.std.specs.Prelude.{◌≡◌, ℕ, List, length, Option, Some, None, slice_get, drop}
use Rattle.checkpoint.specs.Image.{ImageValue}
use Rattle.checkpoint.specs.declared.memory_shelf.MemoryShelf.{MemoryShelf}
use Rattle.matching.specs.Inbox.{accepted_from}
use Rattle.event_logger.specs.Sequential.Event.{EventValue}
use Rattle.event_logger.specs.Sequential.History.{StateValue}
use Rattle.rank_language.specs.Program.{ProgramValue}
use Rattle.rank_machine.specs.States as states
use Rattle.rank_node.specs.declared.waiting.Waiting.{Waiting}
use Rattle.rank_node.specs.Waiting.{events_in, effects}
use Rattle.rank_node.specs.Node.{Node}
use Rattle.rank_node.specs.Image.{begins_at}
use Rattle.rank_node.specs.declared.frame.Frame.{Frame}
use Rattle.matching.specs.declared.line.Line.{Line}
use Rattle.crash_free.specs.Runs.{Passed}

-- the ranks of a world have shelves in memory, and no desk
abbrev pub Rank : Type 0
Rank = Node MemoryShelf (Unit {0})

-- a live rank, with the events that are left to replay, none if it replays nothing
pub record Live : Type 0 where
  pub rank : Rank
  pub left : List EventValue

-- The wire from each rank to each has every frame ever put on it, oldest first. A rank that is down
-- is None. The image of a rank is what its shelf holds, as it reads, None if no image was taken.
-- The run is newest act first; no rank reads it.
pub record WorldValue : Type 0 where
  pub program : ProgramValue
  pub ranks : List (Option Live)
  pub images : List (Option ImageValue)
  pub logger : StateValue
  pub wires : List (List (List Frame))
  pub lines : List Line
  pub run : List Passed

-- how many ranks a world has
abbrev pub size : WorldValue → ℕ
size w = length w.ranks

-- the state in which a rank begins
abbrev pub start_of : WorldValue → ℕ → states.State
start_of w r = states.opening w.program r (size w)

-- this rank is live, with this value
abbrev pub IsLive : WorldValue → ℕ → Live → Type 0
IsLive w r v = slice_get w.ranks r ≡ Some (Some v)

-- this rank is down
abbrev pub IsDown : WorldValue → ℕ → Type 0
IsDown w r = slice_get w.ranks r ≡ Some None

-- the rank begins here when it starts again
abbrev pub BeginsAt : WorldValue → ℕ → ImageValue → Type 0
BeginsAt w r i = (o : Option ImageValue) × (slice_get w.images r ≡ Some o) × (i ≡ begins_at w.program r (size w) o)

-- these frames are on the wire from one rank to another
abbrev pub IsWire : WorldValue → ℕ → ℕ → List Frame → Type 0
IsWire w s d frames = (of_s : List (List Frame)) × (slice_get w.wires s ≡ Some of_s) × (slice_get of_s d ≡ Some frames)

-- what a rank has made that hasn't passed: its events that aren't stored, and its effects that
-- aren't released
abbrev pub unpassed : Rank → List Waiting
unpassed v = drop v.stored v.pending

-- the events that a rank has made and not stored
abbrev pub unstored : Rank → List EventValue
unstored v = events_in (unpassed v)

-- how many effects a rank has made and not released
abbrev pub unreleased : Rank → ℕ
unreleased v = effects (unpassed v)

-- how many messages of s an image had accepted, none if there is no image
abbrev pub accepted_in : Option ImageValue → ℕ → ℕ
accepted_in None s = 0
accepted_in (Some i) s = accepted_from i.inbox s

-- how many messages of s the image at some place had accepted, none if none is there
abbrev pub accepted_at : Option (Option ImageValue) → ℕ → ℕ
accepted_at None s = 0
accepted_at (Some o) s = accepted_in o s

-- how many messages of s the last image of r had accepted: senders may drop these (garbage
-- collection)
abbrev pub covered : List (Option ImageValue) → ℕ → ℕ → ℕ
covered images r s = accepted_at (slice_get images r) s
