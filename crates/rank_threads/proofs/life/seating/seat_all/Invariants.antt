use Rattle.std.proofs.Common.{◌≡◌, ◌+◌, ◌≤◌, ◌++◌, vec_len, vec_capacity}
use Rattle.ports.specs.AllLanes.{to_names, from_names}
use Rattle.rank_threads.specs.Seating.{AreDesksFrom, AreNew, desks_of, lanes_from, lanes_to, plans_of}
use Rattle.rank_threads.specs.Stations.{stations_of}
use Rattle.rank_threads.proofs.life.seating.seat_all.Given as goal

abbrev pub invariant-loop-desk : goal.invariant-loop-desk
invariant-loop-desk g l = record {
  to : to_names l.to.items ++ lanes_to (stations_of l.stations.items) ≡ to_names l.initial.to.items;
  from : from_names l.from.items ++ lanes_from (stations_of l.stations.items) ≡ from_names l.initial.from.items;
  seated : l.desks.items ++ desks_of (stations_of l.stations.items) ≡ l.initial.desks.items;
  desks : AreDesksFrom l.logger 0 l.desks.items;
  plans : l.plans.items ++ plans_of (stations_of l.stations.items) ≡ l.initial.plans.items;
  fresh : AreNew (stations_of l.stations.items);
  as_many_to : vec_len l.to ≡ vec_len l.desks;
  as_many_from : vec_len l.from ≡ vec_len l.desks;
  as_many_plans : vec_len l.plans ≡ vec_len l.desks;
  all : vec_len l.stations + vec_len l.desks ≡ l.size;
  room : l.size ≤ vec_capacity l.stations;
}

abbrev pub decreases-loop-desk : goal.decreases-loop-desk
decreases-loop-desk g l = vec_len l.desks
