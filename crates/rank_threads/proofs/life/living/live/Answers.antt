use Rattle.std.proofs.Common.{subst}
use Rattle.rank_threads.proofs.SeatLemmas.{living_same}
use Rattle.rank_threads.specs.Seats.{IsSeat}
use Rattle.rank_threads.proofs.life.living.live.Goals as goal

-- a life begins
pub returns-in_default : goal.returns-in_default
returns-in_default g c = c.begin_at.ensures

-- a turn was made
pub returns : goal.returns
returns g c =
    λ old here. c.finish_turn.ensures old
    (c.settle_seat.ensures.kept c.args.shared.now.program.now old
    (living_same c.args.shared.now.program.now old c.in-Living.life c.begin_turn-begun.new.life (subst (IsSeat c.args.shared.now.program.now old) c.in-Living.is here)
    c.begin_turn-begun.ensures.same c.begin_turn-begun.ensures.plan))
