-- The clocks that are counted while a run is made once more.
use Rattle.std.specs.Prelude.{◌≡◌, ℕ, ◌<◌, List, slice_index_or}
use Rattle.limits.specs.Limits.{most_ranks}
use Rattle.crash_free.specs.Runs.{Passed}
use Rattle.run_shown.specs.Trace.Places.{clock_of}

-- for each rank that there can be the clock of its newest act stands there
abbrev pub AreCounted : List Passed → List ℕ → Type 0
AreCounted run clocks = (r : ℕ) → r < most_ranks → slice_index_or clocks r 0 ≡ clock_of run r
