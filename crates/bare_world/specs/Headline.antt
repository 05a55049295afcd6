-- The headline: a world is an adversarial execution, and it refines a crash-free execution of its
-- program, the run. So there are no orphans: what others see of a rank rests on stored events
-- alone. The contracts of the world promise this after each event.
-- Source: piecewise determinism, Alvisi and Marzullo 1998; output commit and executions without
-- failures, Elnozahy and others 2002, section 2.
use Rattle.std.specs.Prelude.{◌≡◌, ◌≢◌, ℕ, ◌+◌, ◌≤◌, List, [], ◌++◌, length, take, Option, Some, None, slice_get, replicate}
use Rattle.rank_language.specs.Program.{ProgramValue}
use Rattle.rank_machine.specs.States.{State, Inners}
use Rattle.rank_machine.specs.Acts.{Act, Runs, carried}
use Rattle.rank_machine.specs.Machine.{state_of}
use Rattle.rank_node.specs.Node.{opening}
use Rattle.rank_node.specs.Stored.{Stored}
use Rattle.rank_node.specs.declared.frame.Frame.{Frame}
use Rattle.rank_node.specs.declared.frame.Frame.TheVariants as frame
use Rattle.event_logger.specs.Sequential.Event.{EventValue}
use Rattle.event_logger.specs.Sequential.History.{empty_rows}
use Rattle.checkpoint.specs.declared.memory_shelf.MemoryShelf.{MemoryShelf}
use Rattle.checkpoint.specs.Shelf.{image_bytes}
use Rattle.crash_free.specs.Runs.{Passed, at_place, history, sent, printed, IsRun, continue}
use Rattle.bare_world.specs.Rows.{row, expand, IsRow}
use Rattle.bare_world.specs.World.{Live, WorldValue, size, start_of, IsLive, IsWire, unstored, unreleased}
-- the lines of a rank, each with its clock
pub use Rattle.audit.specs.Outcome.{lines_of}

-- a packet on the wire from s to d with number k is the kth message that s sent to d in the run
abbrev pub IsReal : List Passed → ℕ → ℕ → Frame → Type 0
IsReal C s d (frame.Data p) = (p.source ≡ s) × (at_place (sent C s d) p.number ≡ Some (carried p))
IsReal C s d (frame.Ask from) = Unit {0}
IsReal C s d (frame.Kept upto) = Unit {0}

-- how many acts a rank has made that aren't in the run yet, as output commit holds them back: its
-- events that aren't stored, and its effects that aren't released
abbrev pub owed : Live → ℕ
owed v = length (expand (unstored v.rank)) + unreleased v.rank

-- Where a live rank is, as its program and its acts determine (piecewise determinism): some run
-- continues the run by the acts alone that the rank owes, of which the events are its unstored
-- ones, and its machine is, by inner steps, at the state after its first acts there, as many as its
-- clock says. If it owes something, these are all its acts there.
pub record IsWhere (start : ℕ → State) (n : ℕ) (C : List Passed) (r : ℕ) (v : Live) : Type 0 where
  pub acts : List Act
  pub as_many : length acts ≡ owed v
  pub is_run : IsRun start n (continue C r acts)
  pub events : row (continue C r acts) r ≡ row C r ++ expand (unstored v.rank)
  pub within : v.rank.clock ≤ length (history (continue C r acts) r)
  pub after : State
  pub reached : Runs (start r) (take v.rank.clock (history (continue C r acts) r)) after
  pub inner : Inners after (state_of v.rank.machine)
  pub all_made : owed v ≢ 0 → v.rank.clock ≡ length (history (continue C r acts) r)

-- The world stands for the run: it is a crash-free run of the world's program; each row of the
-- logger is the rank's in the run; each packet ever put on a wire is one that the run sent; the
-- console's lines of each rank are those that it printed in the run; and each live rank is
-- somewhere in the run or ahead of it by what it owes.
pub record StandsFor (w : WorldValue) (C : List Passed) : Type 0 where
  pub is_run : IsRun (start_of w) (size w) C
  pub as_many_rows : length w.logger.rows ≡ size w
  pub rows : (r : ℕ) (events : List EventValue) → slice_get w.logger.rows r ≡ Some events → IsRow C r events
  pub as_many_wires : length w.wires ≡ size w
  pub wires_to_all : (s : ℕ) (of_s : List (List Frame)) → slice_get w.wires s ≡ Some of_s → length of_s ≡ size w
  pub packets : (s d k : ℕ) (frames : List Frame) (f : Frame) → IsWire w s d frames → slice_get frames k ≡ Some f → IsReal C s d f
  pub lines : (r : ℕ) → lines_of r w.lines ≡ printed C r
  pub ranks : (r : ℕ) (v : Live) → IsLive w r v → IsWhere (start_of w) (size w) C r v

-- what of this rank outlives its crashes
abbrev pub stable_of : ℕ → ℕ → MemoryShelf → Stored MemoryShelf (Unit {0})
stable_of n r shelf = record { desk = tt; shelf = shelf; rank = r; size = n }

-- a rank that is live, at the beginning of the program, with nothing on its shelf
abbrev pub IsOpened : ProgramValue → ℕ → ℕ → Option Live → Type 0
IsOpened program n r None = ⊥
IsOpened program n r (Some v) =
    (v ≡ record { rank = opening program (stable_of n r v.rank.stable.shelf); left = [] }) × (image_bytes v.rank.stable.shelf.image ≡ None)

-- A world that is new: all its ranks are at the beginning of the program, and no image is taken and
-- nothing stored, put, shown or passed.
pub record IsFresh (program : ProgramValue) (n : ℕ) (w : WorldValue) : Type 0 where
  pub same_program : w.program ≡ program
  pub as_many : size w ≡ n
  pub ranks : (r : ℕ) (x : Option Live) → slice_get w.ranks r ≡ Some x → IsOpened program n r x
  pub images : w.images ≡ replicate n None
  pub rows : w.logger.rows ≡ empty_rows n
  pub history : w.logger.history ≡ []
  pub wires : w.wires ≡ replicate n (replicate n [])
  pub lines : w.lines ≡ []
  pub run : w.run ≡ []
