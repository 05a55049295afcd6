-- A world without runs of misses: what isn't stored waits one for each act, and rows and what is
-- left to replay are events of one act each. What a world stands for is said of it.
use Rattle.std.specs.Prelude.{◌≡◌, ℕ, zero, suc, ◌<◌, false, List, [], ◌∷◌, map, Option, Some, slice_get, option_map}
use Rattle.event_logger.specs.Sequential.Event.{EventValue}
use Rattle.event_logger.specs.Sequential.Misses.{expand, IsCounted}
use Rattle.event_logger.specs.Sequential.History.{above}
use Rattle.checkpoint.specs.Image.{ImageValue}
use Rattle.rank_node.specs.declared.waiting.Waiting.{Waiting}
use Rattle.rank_node.specs.Waiting.{expanded}
use Rattle.rank_node.specs.Image.{begins_at}
use Rattle.rank_node.specs.Replay.{is_cut}
use Rattle.bare_world.specs.World.{Rank, Live, WorldValue, size, IsLive, unstored}

-- what waits, if so many of the first are stored: what isn't stored waits one for each act
abbrev pub plainly : ℕ → List Waiting → List Waiting
plainly zero xs = expanded xs
plainly (suc k) [] = []
plainly (suc k) (x ∷ xs) = x ∷ plainly k xs

-- a rank without runs of misses, apart from how many events it has made
abbrev pub plain_rank : Rank → Rank
plain_rank v = record v { made = 0; pending = plainly v.stored v.pending }

-- a live rank without runs of misses; what is left is what it has yet to replay
abbrev pub plain : Live → Live
plain v = record { rank = plain_rank v.rank; left = above v.rank.clock (expand v.left) }

-- a world without runs of misses
abbrev pub without_runs : WorldValue → WorldValue
without_runs w = record w { ranks = map (option_map plain) w.ranks; logger = record { rows = map expand w.logger.rows; history = w.logger.history } }

-- these events are runs of misses of acts that there are, and others
abbrev pub AllCounted : List EventValue → Type 0
AllCounted events = (k : ℕ) (e : EventValue) → slice_get events k ≡ Some e → IsCounted e

-- the runs of misses of a live rank: those that wait, and those that are left to replay, each of
-- which ends after its clock
pub record RankRuns (v : Live) : Type 0 where
  pub unstored : AllCounted (unstored v.rank)
  pub left : AllCounted v.left
  pub later : (k : ℕ) (e : EventValue) → slice_get v.left k ≡ Some e → v.rank.clock < e.receiver_clock

-- The runs of misses of a world: those that are stored are of acts that there are, and none of them
-- is cut by its rank's image, so that the rank can start again there.
pub record RunsOfMisses (w : WorldValue) : Type 0 where
  pub rows : (r : ℕ) (events : List EventValue) → slice_get w.logger.rows r ≡ Some events → AllCounted events
  pub uncut : (r k : ℕ) (events : List EventValue) (e : EventValue) (o : Option ImageValue) → slice_get w.logger.rows r ≡ Some events
      → slice_get events k ≡ Some e → slice_get w.images r ≡ Some o → is_cut (begins_at w.program r (size w) o).clock e ≡ false
  pub ranks : (r : ℕ) (v : Live) → IsLive w r v → RankRuns v
