-- What a world shows of a rank that is looked at: the rank itself, whatever it does.
use Rattle.std.specs.Prelude.{◌≡◌, ℕ, ◌≤◌, Some, slice_get}
use Rattle.limits.specs.Limits.{most_ranks}
use Rattle.rank_node.specs.Image.{image_on}
use Rattle.bare_world.specs.Seat.{Phase, IsStanding, bytes_of, live_of}
use Rattle.bare_world.specs.World.{WorldValue, size}

-- What the rank does is what the world has of it, and its shelf holds the image that the world has.
-- It is this rank of the world's program, of as many as the world has: never more than there may be.
pub record IsPhaseOf (w : WorldValue) (r : ℕ) (p : Phase) : Type 0 where
  pub live : slice_get w.ranks r ≡ Some (live_of p)
  pub image : slice_get w.images r ≡ Some (image_on w.program r (size w) (bytes_of p))
  pub standing : IsStanding w.program r (size w) p
  pub few : size w ≤ most_ranks
