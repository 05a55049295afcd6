use Rattle.std.proofs.Common.{◌≡◌, ◌+◌, ◌≤◌, ◌++◌, vec_len, vec_capacity}
use Rattle.ports.specs.AllLanes.{to_names, from_names}
use Rattle.rank_threads.specs.Seating.{accounts_of, desks_of, lanes_from, lanes_to}
use Rattle.rank_threads.specs.Stations.{stations_of}
use Rattle.rank_threads.proofs.life.seating.unseat_all.Given as goal

abbrev pub invariant-loop-parcel : goal.invariant-loop-parcel
invariant-loop-parcel g l = record {
  to : to_names l.to.items ++ lanes_to (stations_of l.stations.items) ≡ lanes_to (stations_of l.initial.stations.items);
  from : from_names l.from.items ++ lanes_from (stations_of l.stations.items) ≡ lanes_from (stations_of l.initial.stations.items);
  desks : l.desks.items ++ desks_of (stations_of l.stations.items) ≡ desks_of (stations_of l.initial.stations.items);
  accounts : l.accounts.items ++ accounts_of (stations_of l.stations.items) ≡ accounts_of (stations_of l.initial.stations.items);
  room_to : vec_len l.stations + vec_len l.to ≤ vec_capacity l.to;
  room_from : vec_len l.stations + vec_len l.from ≤ vec_capacity l.from;
  room_desks : vec_len l.stations + vec_len l.desks ≤ vec_capacity l.desks;
  room_accounts : vec_len l.stations + vec_len l.accounts ≤ vec_capacity l.accounts;
  all : vec_len l.stations + vec_len l.desks ≡ vec_len l.initial.stations;
  as_many_accounts : vec_len l.accounts ≡ vec_len l.desks;
}

abbrev pub decreases-loop-parcel : goal.decreases-loop-parcel
decreases-loop-parcel g l = vec_len l.stations
