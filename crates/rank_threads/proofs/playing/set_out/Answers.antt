use Rattle.std.proofs.Common.{rules, ◌∙◌}
use Rattle.rank_threads.proofs.SeatingLemmas.{desks_ordered}
use Rattle.rank_threads.proofs.playing.set_out.Goals as goal

-- the stations were made of what stood on the stage, and of the desks
pub returns-clause-out : goal.returns-clause-out
returns-clause-out g c = record {
  fresh = c.seat_all-stations.ensures.fresh;
  lines = search rules;
  desks = c.seat_all-stations.ensures.desks ∙ c.requires.new;
  own = rw (c.seat_all-stations.ensures.desks) (desks_ordered c.args.logger.now c.args.desks.items c.requires.desks);
  crossed = rw (c.seat_all-stations.ensures.to, c.seat_all-stations.ensures.from) c.requires.stage.crossed;
}
