-- What follows a life (an incarnation) of a rank: its next one, which begins with the row that was
-- fetched, or none.
use Rattle.std.specs.Prelude.{◌≢◌, None}
use Rattle.rank_language.specs.Program.{ProgramValue}
use Rattle.rank_threads.specs.Dropping.{DropsAll}
use Rattle.rank_threads.specs.Keeping.{HasLived, Lives}
use Rattle.rank_threads.specs.Seats.{LeadsTo}
use Rattle.rank_threads.specs.declared.life.keeper.Next.{Next}
use Rattle.rank_threads.specs.declared.life.keeper.Next.TheVariants as next
use Rattle.rank_threads.specs.declared.life.station.Station.{Station}

-- the station from which the rank lives on, or which it left for good
abbrev pub station_in : Next → Station
station_in (next.Life s) = s
station_in (next.Gone s) = s

-- a rank that is to live on has lost the frames on their way to it
abbrev pub LosesFrames : Station → Next → Type 0
LosesFrames mid (next.Life s) = DropsAll mid s
LosesFrames mid (next.Gone s) = Unit {0}

-- A life that was lived from some station to the first is followed so: from there on the next lives
-- are lived, or the rank has come to its end.
abbrev pub Follows : ProgramValue → Station → Next → Type 0
Follows program mid (next.Life s) = (old : Station) → HasLived program old mid → LeadsTo program old s
Follows program mid (next.Gone s) = (s.end ≢ None) × ((old : Station) → HasLived program old mid → Lives program old s)
