use Rattle.std.proofs.Common.{◌≡◌, ◌≢◌, ◌<◌, ℕ, Some, slice_get}
use Rattle.outcomes.specs.Soak.Histogram.{BarValue}
use Rattle.outcomes.proofs.soak.histogram.place_of.Given as goal

-- the bars so far are of other outcomes
abbrev pub invariant-loop-at : goal.invariant-loop-at
invariant-loop-at l = (i : ℕ) (bar : BarValue) → i < l.at → slice_get l.bars i ≡ Some bar → bar.outcome ≢ l.ranks
