use Rattle.std.proofs.Common.{◌≡◌, ◌<◌, ◌≤◌, ◌-◌, ℕ, length, slice_get}
use Rattle.audit.specs.Rows.{expand}
use Rattle.audit.proofs.counts.ActCounts.begin_with.Given as goal

-- so far they are the same
abbrev pub invariant-loop-done : goal.invariant-loop-done
invariant-loop-done l = record {
  same : (i : ℕ) → i < l.done → slice_get (expand l.events) i ≡ slice_get l.others i;
  within : l.done ≤ length l.others;
}

abbrev pub decreases-loop-done : goal.decreases-loop-done
decreases-loop-done l = length l.others - l.done
