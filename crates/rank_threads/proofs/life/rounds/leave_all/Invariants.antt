use Rattle.std.proofs.Common.{List}
use Rattle.rank_threads.proofs.SeatLemmas.{GoneBelow}
use Rattle.rank_threads.specs.Seats.{AreSeated}
use Rattle.rank_threads.specs.declared.life.station.Station.{Station}
use Rattle.rank_threads.proofs.life.rounds.leave_all.Given as goal

-- all still are where they were, and those so far are gone
abbrev pub invariant-loop-at : goal.invariant-loop-at
invariant-loop-at g l = record {
  kept : (firsts : List Station) → AreSeated l.shared.program.now firsts l.fn.seats → AreSeated l.shared.program.now firsts l.seats;
  gone : (firsts : List Station) → AreSeated l.shared.program.now firsts l.fn.seats → GoneBelow l.at l.seats;
}
