use Rattle.std.proofs.Common.{◌≡◌, ◌+◌, ◌≤◌, ◌++◌, map, vec_len, vec_capacity}
use Rattle.rank_threads.specs.Stations.{stations_of}
use Rattle.rank_threads.specs.declared.life.seat.Seat.TheVariants as seat
use Rattle.rank_threads.proofs.life.rounds.sit_down.Given as goal

-- those who sit are the first of all, and the others stand behind them
abbrev pub invariant-loop-parcel : goal.invariant-loop-parcel
invariant-loop-parcel g l = record {
  seated : l.seats.items ++ map seat.Between (stations_of l.stations.items) ≡ map seat.Between (stations_of l.initial.stations.items);
  all : vec_len l.stations + vec_len l.seats ≡ vec_len l.initial.stations;
  seats : vec_len l.stations + vec_len l.seats ≤ vec_capacity l.seats;
  room : vec_capacity l.stations ≡ vec_capacity l.initial.stations;
}

abbrev pub decreases-loop-parcel : goal.decreases-loop-parcel
decreases-loop-parcel g l = vec_len l.stations
