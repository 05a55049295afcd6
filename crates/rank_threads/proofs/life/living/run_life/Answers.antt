use Rattle.std.proofs.Common.{subst}
use Rattle.rank_threads.specs.Seats.{IsSeat}
use Rattle.rank_threads.specs.declared.life.seat.Seat.TheVariants as seat
use Rattle.rank_threads.proofs.life.living.run_life.Goals as goal

-- the life is over
pub returns-then-is_over-clause-lived : goal.returns-then-is_over-clause-lived
returns-then-is_over-clause-lived g c =
    let over : IsSeat c.args.shared.now.program.now c.args.station (seat.Over c.into_station.result)
    = subst (IsSeat c.args.shared.now.program.now c.args.station) c.into_station.ensures (c.live-is_idle.ensures c.args.station c.loop.invariant) in
    over.1

pub returns-then-is_over-clause-same : goal.returns-then-is_over-clause-same
returns-then-is_over-clause-same g c =
    let over : IsSeat c.args.shared.now.program.now c.args.station (seat.Over c.into_station.result)
    = subst (IsSeat c.args.shared.now.program.now c.args.station) c.into_station.ensures (c.live-is_idle.ensures c.args.station c.loop.invariant) in
    over.0

-- or goes on, whether the rank waits or not
pub loop-preserved : goal.loop-preserved
loop-preserved g c =
    c.wait_if.ensures c.args.shared.now.program.now c.args.station (c.live-is_idle.ensures c.args.station c.loop.invariant)
