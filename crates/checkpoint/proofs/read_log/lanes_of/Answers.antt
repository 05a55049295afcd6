use Rattle.std.proofs.Common.{[]}
use Rattle.std.proofs.lemmas.Result.{err_from_is_err_and}
use Rattle.checkpoint.specs.Reading.{many_at, lane_at}
use Rattle.checkpoint.proofs.Loop.{goes_on, ends, is_done}
use Rattle.checkpoint.proofs.read_log.lanes_of.Goals as goal

pub returns-in_err-lane : goal.returns-in_err-lane
returns-in_err-lane c =
    let p = err_from_is_err_and c.from_residual.result c.from_residual.ensures.1 in
    rw (p.1, p.2) (ends (λ before. lane_at c.args.rank c.args.clock) c.in_err-lane.field-0.0 c.loop.lanes.items c.args.size c.loop.counter
    c.loop.rest.now (many_at (λ before. lane_at c.args.rank c.args.clock) c.args.size [] c.args.bytes.now) c.loop-test.true
    c.in_err-lane.ensures c.loop.invariant)

pub loop-preserved : goal.loop-preserved
loop-preserved c =
    rw c.in_ok-push.ensures.items (goes_on (λ before. lane_at c.args.rank c.args.clock) c.loop.lanes.items c.args.size c.loop.counter
    c.loop.rest.now c.in_ok-lane.lane c.in_ok-lane.after.now (many_at (λ before. lane_at c.args.rank c.args.clock) c.args.size []
    c.args.bytes.now) c.loop-test.true c.in_ok-lane.ensures c.loop.invariant)

pub returns : goal.returns
returns c = rw c.of.ensures (is_done (λ before. lane_at c.args.rank c.args.clock) c.loop.lanes.items c.args.size c.loop.counter
    c.loop.rest.now (many_at (λ before. lane_at c.args.rank c.args.clock) c.args.size [] c.args.bytes.now) c.loop-test.false
    c.loop.invariant)
