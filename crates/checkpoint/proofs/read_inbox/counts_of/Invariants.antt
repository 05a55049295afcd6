use Rattle.std.proofs.Common.{◌≡◌, ◌-◌, ◌≤◌, [], length, All}
use Rattle.limits.specs.Limits.{greatest_clock}
use Rattle.checkpoint.specs.Reading.{many_at, count_at}
use Rattle.checkpoint.proofs.read_inbox.counts_of.Given as goal

abbrev pub invariant-loop : goal.invariant-loop
invariant-loop l = record {
  read : many_at (λ before. count_at) (l.size - l.counter) l.counts.items l.rest ≡ many_at (λ before. count_at) l.size [] l.bytes;
  count : length l.counts.items ≡ l.counter;
  high : All (λ n. n ≤ greatest_clock) l.counts.items;
}
