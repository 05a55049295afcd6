use Rattle.std.proofs.Common.{◌≡◌, ◌-◌, []}
use Rattle.checkpoint.specs.Reading.{many_at, lane_at}
use Rattle.checkpoint.proofs.read_log.lanes_of.Given as goal

abbrev pub invariant-loop : goal.invariant-loop
invariant-loop l = many_at (λ before. lane_at l.rank l.clock) (l.size - l.counter) l.lanes.items l.rest
    ≡ many_at (λ before. lane_at l.rank l.clock) l.size [] l.bytes
