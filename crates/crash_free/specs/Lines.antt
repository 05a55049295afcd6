-- The lines that a simulation keeps beside its run, so that nobody walks the run for them.
use Rattle.std.specs.Prelude.{◌≡◌, ℕ, ℤ, List, Some, length, slice_get}
use Rattle.limits.specs.Limits.{most_ranks}
use Rattle.crash_free.specs.Runs.{Passed}
use Rattle.crash_free.specs.Alike.{lines_in}

-- there is a row for each rank that there may be, and in it what the rank printed in the run
pub record AreLines (rows : List (List ℤ)) (C : List Passed) : Type 0 where
  pub size : length rows ≡ most_ranks
  pub each : (r : ℕ) (row : List ℤ) → slice_get rows r ≡ Some row → row ≡ lines_in C r
