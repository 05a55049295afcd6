-- How many events a rank has made: those that are stored and those that aren't. This names no run,
-- so it also holds of a rank that starts again behind it.
use Rattle.std.specs.Prelude.{◌≡◌, ℕ, ◌+◌, ◌≤◌, List, length, Some, slice_get}
use Rattle.limits.specs.Limits.{most_events}
use Rattle.event_logger.specs.Sequential.Event.{EventValue}
use Rattle.bare_world.specs.World.{Live, unstored, WorldValue, IsLive}

-- a live rank with these events in its row has made these and its unstored ones, and no more than
-- it may
pub record RankCounts (v : Live) (events : List EventValue) : Type 0 where
  pub made : v.rank.made ≡ length events + length (unstored v.rank)
  pub few : v.rank.made ≤ most_events

-- no row has more events than it may, also while its rank is down, and each live rank has counted
-- its events
pub record Counts (w : WorldValue) : Type 0 where
  pub rows : (r : ℕ) (events : List EventValue) → slice_get w.logger.rows r ≡ Some events → length events ≤ most_events
  pub ranks : (r : ℕ) (v : Live) (events : List EventValue) → IsLive w r v → slice_get w.logger.rows r ≡ Some events → RankCounts v events
