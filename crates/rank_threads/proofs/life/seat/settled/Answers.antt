use Rattle.std.proofs.Common.{ap, subst}
use Rattle.rank_threads.proofs.SeatLemmas.{living_same}
use Rattle.rank_threads.specs.Seats.{IsSeat}
use Rattle.rank_threads.proofs.life.seat.settled.Goals as goal

-- a life that is settled is the same life
pub returns-in-Living-clause-kept : goal.returns-in-Living-clause-kept
returns-in-Living-clause-kept c =
    λ program old here. living_same program old c.in-Living.life c.settle.result (subst (IsSeat program old) c.in-Living.is here) c.settle.ensures.same
    (ap (λ l. l.kit.plan) c.settle.ensures.rest)
