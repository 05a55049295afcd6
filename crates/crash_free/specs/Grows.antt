-- How a run grows for one of its ranks.
use Rattle.std.specs.Prelude.{◌≡◌, ℕ, List, ◌++◌}
use Rattle.rank_machine.specs.Acts.{Message}
use Rattle.crash_free.specs.Runs.{Passed, history, sent}

-- the second list begins with the first
abbrev pub Grows : List Message → List Message → Type 0
Grows xs ys = (extra : List Message) × (ys ≡ xs ++ extra)

-- the second run is the first for rank r, but that other ranks may have sent it more
pub record Extends (r : ℕ) (C C' : List Passed) : Type 0 where
  pub same : history C' r ≡ history C r
  pub grows : (s : ℕ) → Grows (sent C s r) (sent C' s r)
