-- A run that goes on by one act.
use Rattle.std.specs.Prelude.{ℕ, List, ◌∷◌}
use Rattle.rank_machine.specs.Acts.{Act}
use Rattle.crash_free.specs.Runs.{Passed}

-- the run with one more act, of this rank
abbrev pub and_then : List Passed → ℕ → Act → List Passed
and_then P r act = record { rank = r; act = act } ∷ P
