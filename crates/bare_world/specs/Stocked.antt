-- What every world has beside its invariant: a program whose lines are those of its tree, which the
-- machine of each live rank runs, and for each rank a shelf (its checkpoint store) that holds its
-- image.
use Rattle.std.specs.Prelude.{◌≡◌, ℕ, List, length, Option, Some, slice_get, IfSome}
use Rattle.checkpoint.specs.Image.{ImageValue}
use Rattle.checkpoint.specs.Shelf.{image_bytes}
use Rattle.checkpoint.specs.declared.memory_shelf.MemoryShelf.{MemoryShelf}
use Rattle.rank_language.specs.Block.{lines_at}
use Rattle.rank_language.specs.Program.{ProgramValue, block_of}
use Rattle.rank_node.specs.Image.{image_on}
use Rattle.bare_world.specs.World.{Live, WorldValue}
use Rattle.bare_world.specs.Seats.{SeatValue}

-- some shelf holds this image of rank r of n, or none
abbrev pub HasShelf : ProgramValue → ℕ → ℕ → Option ImageValue → Type 0
HasShelf program r n image = (shelf : MemoryShelf) × (image_on program r n (image_bytes shelf.image) ≡ image)

-- a rank's machine runs this program
abbrev pub RunsProgram : ProgramValue → Live → Type 0
RunsProgram program v = v.rank.machine.program ≡ program

-- one seat has them: the program's lines, a machine that runs it, and a shelf
pub record IsSeatStocked (s : SeatValue) : Type 0 where
  pub lines : s.program.statements ≡ lines_at 0 (block_of s.program)
  pub runs : IfSome s.live (λ v. RunsProgram s.program v)
  pub shelf : HasShelf s.program s.rank s.size s.image

-- these ranks of a program have them, with these images
pub record AreStocked (program : ProgramValue) (ranks : List (Option Live)) (images : List (Option ImageValue)) : Type 0 where
  pub lines : program.statements ≡ lines_at 0 (block_of program)
  pub run : (r : ℕ) (v : Live) → slice_get ranks r ≡ Some (Some v) → RunsProgram program v
  pub shelves : (r : ℕ) (o : Option ImageValue) → slice_get images r ≡ Some o → HasShelf program r (length ranks) o

-- a world has them
abbrev pub IsStocked : WorldValue → Type 0
IsStocked w = AreStocked w.program w.ranks w.images
