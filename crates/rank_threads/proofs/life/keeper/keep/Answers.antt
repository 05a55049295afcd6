use Rattle.rank_threads.proofs.SeatLemmas.{station_on}
use Rattle.rank_threads.proofs.life.keeper.keep.Goals as goal

-- the next life is behind those so far
pub loop-preserved : goal.loop-preserved
loop-preserved g c = record {
  same =
      station_on c.args.station c.loop.station c.in-Life.next c.loop.invariant.same
      (station_on c.loop.station c.spawn_life.result c.in-Life.next c.spawn_life.ensures.same c.in-Life.ensures.same);
  lives = λ u rest. c.loop.invariant.lives u (c.in-Life.ensures.follows c.loop.station c.spawn_life.ensures.lived u rest);
}

-- or there is none
pub returns-in-Gone-clause-lives : goal.returns-in-Gone-clause-lives
returns-in-Gone-clause-lives g c =
    c.loop.invariant.lives c.in-Gone.gone (c.in-Gone.ensures.follows.1 c.loop.station c.spawn_life.ensures.lived)
