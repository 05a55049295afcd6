use Rattle.std.proofs.Common.{subst}
use Rattle.rank_threads.proofs.SeatLemmas.{moves_from}
use Rattle.rank_threads.specs.Keeping.{told}
use Rattle.rank_threads.specs.Seats.{IsSeated}
use Rattle.rank_threads.specs.declared.life.seat.Seat.TheVariants as seat
use Rattle.rank_threads.proofs.life.rounds.told.Goals as goal

-- between two lives the rank was told to leave
pub returns-in-Between-clause-moved : goal.returns-in-Between-clause-moved
returns-in-Between-clause-moved c =
    λ program first before. moves_from program c.in-Between.station (seat.Gone c.leave_unfinished.result)
    (c.leave_unfinished.ensures.same, told c.leave_unfinished.ensures.told) first (subst (IsSeated program first) c.in-Between.is before)
