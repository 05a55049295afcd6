use Rattle.std.proofs.Common.{sym, subst}
use Rattle.rank_threads.specs.Seats.{IsSeat}
use Rattle.rank_threads.proofs.life.seat.settle_now.Goals as goal

-- whoever was taken away is here again, settled
pub returns-clause-kept : goal.returns-clause-kept
returns-clause-kept c =
    λ program old here. subst (IsSeat program old) (sym c.put.ensures)
    (c.settled.ensures.kept program old (subst (IsSeat program old) (sym c.replace-taken.ensures.value) here))
