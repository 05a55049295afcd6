use Rattle.std.proofs.Common.{◌≡◌, ◌+◌, ◌-◌, ◌≤◌, length}
use Rattle.limits.specs.Limits.{most_ranks}
use Rattle.crash_free.specs.Inbound.{all_sources}
use Rattle.crash_free.proofs.mail.inbound.reach.Given as goal

-- they are the same but for empty ones
abbrev pub invariant-loop-alloc : goal.invariant-loop-alloc
invariant-loop-alloc l = record {
  same : all_sources l.channels.items ≡ all_sources l.initial.channels.items;
  few : length l.channels.items ≤ most_ranks;
}

abbrev pub decreases-loop-alloc : goal.decreases-loop-alloc
decreases-loop-alloc l = l.source + 1 - length l.channels.items
