use Rattle.std.proofs.Common.{◌<◌, [], length, arith}
use Rattle.rank_threads.proofs.SeatLemmas.{gone_more, seated_at, set_seated}
use Rattle.rank_threads.proofs.life.rounds.leave_all.Goals as goal

-- one more is gone
pub loop-at-preserved : goal.loop-at-preserved
loop-at-preserved g c =
    let program = c.args.shared.now.program.now in
    let seats = c.loop-at.seats in
    let low : c.loop-at.at < length c.loop-at.seats = grind (arith, c.loop-at-test.true, c.loop-at.auto.seats) in
    record {
      kept = λ firsts all.
          set_seated program firsts seats [] c.loop-at.at c.leave.new.seat c.index-seats-at.result low
          c.leave.ensures.kept (c.loop-at.invariant.kept firsts all);
      gone = λ firsts all.
          let here = seated_at program firsts seats [] c.loop-at.at c.index-seats-at.result low (c.loop-at.invariant.kept firsts all) in
          gone_more seats c.loop-at.at c.leave.new.seat low (c.loop-at.invariant.gone firsts all)
          (c.leave.ensures.gone here.0 here.1);
    }
