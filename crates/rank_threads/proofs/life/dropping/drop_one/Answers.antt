use Rattle.rank_threads.proofs.DroppingLemmas.{dropped_one}
use Rattle.rank_threads.proofs.life.dropping.drop_one.Goals as goal

-- a frame was taken behind the look at its lane, and counted
pub returns-clause-dropped : goal.returns-clause-dropped
returns-clause-dropped c =
    dropped_one c.args.source c.args.station.now _ c.sees_frame.new.lanes.items c.in-Some.field-0 c.sees_frame.ensures.takes c.in-Some.ensures.takes
    c.count_taken.ensures c.count_dropped.ensures
