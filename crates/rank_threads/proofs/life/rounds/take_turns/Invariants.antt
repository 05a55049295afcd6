use Rattle.std.proofs.Common.{List}
use Rattle.rank_threads.specs.Seats.{AreSeated}
use Rattle.rank_threads.specs.declared.life.station.Station.{Station}
use Rattle.rank_threads.proofs.life.rounds.take_turns.Given as goal

-- all still are where they were
abbrev pub invariant-loop : goal.invariant-loop
invariant-loop g l = (firsts : List Station) → AreSeated l.shared.program.now firsts l.fn.seats → AreSeated l.shared.program.now firsts l.seats
