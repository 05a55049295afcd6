-- Copies of the ranks of a world: each is the same rank, on a shelf of its own that holds the same
-- image.
use Rattle.std.specs.Prelude.{◌≡◌, ℕ}
use Rattle.rank_language.specs.Program.{ProgramValue}
use Rattle.bare_world.specs.Seats.{SeatValue}
use Rattle.bare_world.specs.Seat.{bytes_of, live_of, HasLeft, IsStanding, Phase}
use Rattle.bare_world.specs.Driven.{IsAlike}

-- A rank and a copy of it.
pub record IsPhaseCopy (s c : Phase) : Type 0 where
  pub live : IsAlike (live_of s) (live_of c)
  pub bytes : bytes_of c ≡ bytes_of s
  pub standing : (program : ProgramValue) (r n : ℕ) → IsStanding program r n s → IsStanding program r n c
  pub left : HasLeft s → HasLeft c

-- A seat and a copy of it.
pub record IsSeatCopy (s c : SeatValue) : Type 0 where
  pub same_program : c.program ≡ s.program
  pub rank : c.rank ≡ s.rank
  pub size : c.size ≡ s.size
  pub live : IsAlike s.live c.live
  pub image : c.image ≡ s.image
