-- What stands at the seat of a rank, its process slot, which outlives its crashes.
use Rattle.std.specs.Prelude.{◌≡◌, ◌≢◌, ℕ, List, [], Option, Some, None, option_and_then}
use Rattle.checkpoint.specs.Shelf.{image_bytes}
use Rattle.checkpoint.specs.declared.memory_shelf.MemoryShelf.{MemoryShelf}
use Rattle.rank_language.specs.Program.{ProgramValue}
use Rattle.rank_node.specs.Image.{Reads, image_on}
use Rattle.rank_node.specs.Phases.{stable_in}
use Rattle.rank_node.specs.Stored.{Stored}
use Rattle.rank_node.specs.declared.phase.Phase as ranks
use Rattle.rank_node.specs.declared.phase.Phase.TheVariants.{Running, Replaying, Down}
use Rattle.bare_world.specs.World.{Rank, Live}
use Rattle.bare_world.specs.Seats.{at_work, in_replay, SeatValue}

-- a rank with a shelf in memory, and no desk
abbrev pub Phase : Type 0
Phase = ranks.Phase MemoryShelf (Unit {0})

-- the rank, if it is live
abbrev pub live_of : Phase → Option Live
live_of (Running node) = at_work node
live_of (Replaying replay) = in_replay replay
live_of (Down stable) = None

-- the bytes on a rank's shelf, if there are some
abbrev pub shelf_of : Stored MemoryShelf (Unit {0}) → Option (List ℕ)
shelf_of stable = image_bytes stable.shelf.image

-- the bytes on the shelf of a rank, whatever it does
abbrev pub bytes_of : Phase → Option (List ℕ)
bytes_of p = shelf_of (stable_in p)

-- What is stable is of this rank of so many, and its shelf is empty or holds an image of this rank
-- of the program.
pub record IsOwn (program : ProgramValue) (r n : ℕ) (stable : Stored MemoryShelf (Unit {0})) : Type 0 where
  pub rank : stable.rank ≡ r
  pub size : stable.size ≡ n
  pub reads : Reads program r n (shelf_of stable)

-- A live rank's machine has this program, and what is stable is this rank's.
pub record IsOf (program : ProgramValue) (r n : ℕ) (v : Rank) : Type 0 where
  pub same_program : v.machine.program ≡ program
  pub own : IsOwn program r n v.stable

-- the rank is this one of the program
abbrev pub IsStanding : ProgramValue → ℕ → ℕ → Phase → Type 0
IsStanding program r n (Running node) = IsOf program r n node
IsStanding program r n (Replaying replay) = IsOf program r n replay.node
IsStanding program r n (Down stable) = IsOwn program r n stable

-- a rank that replays has something left to replay
abbrev pub HasLeft : Phase → Type 0
HasLeft (Running node) = Unit {0}
HasLeft (Replaying replay) = replay.left ≢ []
HasLeft (Down stable) = Unit {0}

-- What holds of the rank at a seat.
pub record IsKept (program : ProgramValue) (r n : ℕ) (p : Phase) : Type 0 where
  pub standing : IsStanding program r n p
  pub left : HasLeft p

-- a rank stands at the seat, of which that holds
abbrev pub IsSeated : ProgramValue → ℕ → ℕ → Option Phase → Type 0
IsSeated program r n None = ⊥
IsSeated program r n (Some p) = IsKept program r n p

-- the seat, as contracts see it
abbrev pub seat_of : ProgramValue → ℕ → ℕ → Option Phase → SeatValue
seat_of program r n occupant = record {
  program = program;
  rank = r;
  size = n;
  live = option_and_then live_of occupant;
  image = image_on program r n (option_and_then bytes_of occupant);
}
