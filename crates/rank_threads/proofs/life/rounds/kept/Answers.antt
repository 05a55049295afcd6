use Rattle.std.proofs.Common.{subst}
use Rattle.rank_threads.proofs.SeatLemmas.{moves_from}
use Rattle.rank_threads.specs.Seats.{IsSeated}
use Rattle.rank_threads.proofs.life.rounds.kept.Goals as goal

-- the next life begins
pub returns-in-Between : goal.returns-in-Between
returns-in-Between g c =
    λ first before. moves_from c.args.shared.now.program.now c.in-Between.station c.begun_unless_told.result c.begun_unless_told.ensures first
    (subst (IsSeated c.args.shared.now.program.now first) c.in-Between.is before)

-- or the last one is over
pub returns : goal.returns
returns g c =
    λ first before. c.followed.ensures.moved first (subst (IsSeated c.args.shared.now.program.now first) c.in-Over.is before)
