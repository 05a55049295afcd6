use Rattle.rank_threads.specs.Keeping.{Lives}
use Rattle.rank_threads.specs.Stations.{SameStation}
use Rattle.rank_threads.specs.declared.life.station.Station.{Station}
use Rattle.rank_threads.proofs.life.keeper.keep.Given as goal

-- what stays, and that the lives from here on are behind those so far
abbrev pub invariant-loop : goal.invariant-loop
invariant-loop g l = record {
  same : SameStation l.initial.station l.station;
  lives : (u : Station) → Lives l.shared.program.now l.station u → Lives l.shared.program.now l.initial.station u;
}
