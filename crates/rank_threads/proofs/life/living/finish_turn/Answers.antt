use Rattle.std.proofs.Common.{subst}
use Rattle.rank_threads.proofs.SeatLemmas.{living_on, seat_over}
use Rattle.rank_threads.specs.Seats.{IsSeat}
use Rattle.rank_threads.proofs.life.living.finish_turn.Goals as goal

-- the life goes on
pub returns-in-On : goal.returns-in-On
returns-in-On g c =
    λ old here. living_on c.args.shared.now.program.now old c.in-Living.life c.end_turn.new.life
    (subst (IsSeat c.args.shared.now.program.now old) c.in-Living.is here) (c.in-On.ensures.same, c.in-On.ensures.crashes) c.in-On.ensures.lines

-- or is over
pub returns-in-Over : goal.returns-in-Over
returns-in-Over g c =
    λ old here. seat_over c.args.shared.now.program.now old c.in-Living.life c.end_turn.new.life c.in-Over.ended c.end_life_at.new.seat c.end_life_at.ensures
    (subst (IsSeat c.args.shared.now.program.now old) c.in-Living.is here) c.in-Over.ensures.same c.in-Over.ensures.lines c.in-Over.ensures.at
    c.in-Over.ensures.crashes
