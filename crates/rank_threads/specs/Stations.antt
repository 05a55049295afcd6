-- What stays of a rank's station, its process slot, from life to life (from incarnation to
-- incarnation).
use Rattle.std.specs.Prelude.{◌≡◌, false, List, [], ◌∷◌, ◌++◌, Some, None}
use Rattle.event_logger.specs.Desks.{own_row}
use Rattle.event_logger.specs.Sequential.History.{above}
use Rattle.rank_node.specs.Phases.{stable_in}
use Rattle.rank_threads.specs.Phases.{SameStable}
use Rattle.rank_threads.specs.Lanes.{SameTxs, SameRxs}
use Rattle.rank_threads.specs.declared.life.parcel.Parcel.{Parcel}
use Rattle.rank_threads.specs.declared.life.row.Row.{Row}
use Rattle.rank_threads.specs.declared.life.Life.{Life}
use Rattle.rank_threads.specs.declared.life.station.Station.{Station}
use Rattle.rank_threads.specs.declared.life.stood.Stood.{Stood}
use Rattle.rank_threads.specs.Costs.{new_meter}
use Rattle.rank_threads.specs.Tally.{new_tally}

-- the rank, its desk and its lanes are the same
abbrev pub SameStation : Station → Station → Type 0
SameStation a b = (b.kit.rank ≡ a.kit.rank) × SameStable a.down b.down × (b.size ≡ a.size)
    × SameTxs a.kit.to.items b.kit.to.items × SameRxs a.kit.from.items b.kit.from.items

-- the lines of the script that are left, the row that was fetched, how the rank left and how it
-- stood then are the same
abbrev pub SameRest : Station → Station → Type 0
SameRest a b = (b.kit.plan ≡ a.kit.plan) × (b.row ≡ a.row) × (b.end ≡ a.end) × (b.stood ≡ a.stood)

-- this is a life of that station's rank: it has the same rank, desk and lanes
abbrev pub IsLifeOf : Station → Life → Type 0
IsLifeOf a s =
    (s.kit.rank ≡ a.kit.rank) × SameStable a.down (stable_in s.node.phase) × (s.node.size ≡ a.size)
    × SameTxs a.kit.to.items s.kit.to.items × SameRxs a.kit.from.items s.kit.from.items

-- The station has fetched its row: all the events that its desk has stored.
pub record HasRow (s : Station) : Type 0 where
  pub row : Row
  pub fetched : s.row ≡ Some row
  pub whole : row.events.items ≡ above 0 (own_row s.down.desk)

-- how a rank stands that hasn't lived yet: it has made no act and replays none, and it didn't leave
-- as all were at rest
abbrev pub stood_at_first : Stood
stood_at_first = record { clock = 0; is_replaying = false; is_at_rest = false }

-- The rank hasn't lived yet: nothing is counted of it, it has fetched no row, and it hasn't left.
pub record IsNew (s : Station) : Type 0 where
  pub tally : s.kit.tally ≡ new_tally
  pub meter : s.kit.meter ≡ new_meter
  pub row : s.row ≡ None
  pub end : s.end ≡ None
  pub stood : s.stood ≡ stood_at_first

module _ {W : Type 0} where
  -- the stations in rank order: the last rank's is the first of the parcels
  abbrev pub stations_of : List (Parcel W) → List Station
  stations_of [] = []
  stations_of (p ∷ ps) = stations_of ps ++ p.station ∷ []
