use Rattle.std.proofs.Common.{[]}
use Rattle.rank_threads.proofs.SeatLemmas.{set_seated}
use Rattle.rank_threads.proofs.life.rounds.take_turns.Goals as goal

-- one of them took its turn
pub loop-preserved : goal.loop-preserved
loop-preserved g c =
    λ firsts all. set_seated c.args.shared.now.program.now firsts c.loop.seats [] c.in-Some.at c.take_turn-is_idle.new.seat c.index-seats-at.result
    c.in-Some.ensures.there
    c.take_turn-is_idle.ensures (c.loop.invariant firsts all)
