use Rattle.rank_threads.proofs.SeatLemmas.{moves_on}
use Rattle.rank_threads.proofs.life.rounds.take_turn.Goals as goal

-- a turn was made
pub returns-in-Living : goal.returns-in-Living
returns-in-Living g c = moves_on c.args.shared.now.program.now c.args.seat.now c.live.new.seat c.live.ensures
