use Rattle.rank_threads.specs.Seats.{IsSeat}
use Rattle.rank_threads.proofs.life.living.run_life.Given as goal

-- it is the rank of this station, in this life
abbrev pub invariant-loop : goal.invariant-loop
invariant-loop g l = IsSeat l.shared.program.now l.fn.station l.seat
