use Rattle.rank_threads.proofs.SeatLemmas.{followed_gone, followed_life}
use Rattle.rank_threads.proofs.life.rounds.followed.Goals as goal

-- the next life is to begin
pub returns-in-Life-clause-moved : goal.returns-in-Life-clause-moved
returns-in-Life-clause-moved g c =
    followed_life c.args.shared.now.program.now c.args.station c.in-Life.station c.in-Life.ensures.same c.in-Life.ensures.follows

-- or there is none
pub returns-in-Gone-clause-moved : goal.returns-in-Gone-clause-moved
returns-in-Gone-clause-moved g c =
    followed_gone c.args.shared.now.program.now c.args.station c.in-Gone.station c.in-Gone.ensures.same c.in-Gone.ensures.follows.1
