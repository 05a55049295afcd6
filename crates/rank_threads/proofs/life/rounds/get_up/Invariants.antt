use Rattle.std.proofs.Common.{◌≡◌, ◌+◌, ◌≤◌, List, vec_len, vec_capacity}
use Rattle.rank_language.specs.Program.{ProgramValue}
use Rattle.rank_threads.specs.Seats.{AreGone, AreSeated, AreSeatedBut}
use Rattle.rank_threads.specs.Stations.{stations_of}
use Rattle.rank_threads.specs.declared.life.station.Station.{Station}
use Rattle.rank_threads.proofs.life.rounds.get_up.Given as goal

-- those who sit are gone, and the others were kept
abbrev pub invariant-loop-seat : goal.invariant-loop-seat
invariant-loop-seat g l = record {
  gone : AreGone l.seats.items;
  kept : (program : ProgramValue) (firsts : List Station) → AreSeated program firsts l.initial.seats.items → AreSeatedBut program firsts l.seats.items (stations_of l.stations.items);
  all : vec_len l.seats + vec_len l.stations ≡ vec_len l.initial.seats;
  places : vec_len l.seats + vec_len l.stations ≤ vec_capacity l.stations;
  room : vec_capacity l.stations ≡ vec_capacity l.initial.stations;
}

abbrev pub decreases-loop-seat : goal.decreases-loop-seat
decreases-loop-seat g l = vec_len l.seats
