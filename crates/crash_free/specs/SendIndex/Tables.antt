-- A table of sends: for each ordered pair of ranks the indices of the sends from the one to the
-- other, the oldest first.
use Rattle.std.specs.Prelude.{◌≡◌, ℕ, ◌+◌, ◌*◌, ◌&&◌, nat_lt, true, List, [], ◌∷◌, ◌++◌, Option, None, if◌then◌else◌, length, slice_index_or, slice_set}
use Rattle.limits.specs.Limits.{most_ranks}
use Rattle.rank_machine.specs.Acts.{Act, sends, takes, hits, misses, prints}
use Rattle.crash_free.specs.Runs.{Passed, at_place}
use Rattle.crash_free.specs.SendIndex.Sends.{send_indices}

-- the place of an ordered pair of ranks in a table
abbrev pub pair : ℕ → ℕ → ℕ
pair source dest = source * most_ranks + dest

-- the indices that a table has for a pair
abbrev pub of_pair : List (List ℕ) → ℕ → ℕ → List ℕ
of_pair table source dest = slice_index_or table (pair source dest) []

-- a table has the sends of this run
pub record HasSends (run : List Passed) (table : List (List ℕ)) : Type 0 where
  pub as_many : length table ≡ most_ranks * most_ranks
  pub each : (source dest : ℕ) → nat_lt source most_ranks && nat_lt dest most_ranks ≡ true
      → of_pair table source dest ≡ send_indices run source dest

-- a table with one more send of a pair, if there can be both ranks
abbrev pub noted : ℕ → ℕ → ℕ → List (List ℕ) → List (List ℕ)
noted source dest index table = if nat_lt source most_ranks && nat_lt dest most_ranks
    then slice_set table (pair source dest) (of_pair table source dest ++ index ∷ []) else table

-- a table with the act of this rank and index, if it is a send
abbrev pub noted_by : ℕ → Act → ℕ → List (List ℕ) → List (List ℕ)
noted_by rank (sends dest context tag items) index table = noted rank dest index table
noted_by rank (takes source place) index table = table
noted_by rank (hits source place) index table = table
noted_by rank misses index table = table
noted_by rank (prints value) index table = table

-- what a table has at a place of a pair, if there can be both ranks
abbrev pub found_at : List (List ℕ) → ℕ → ℕ → ℕ → Option ℕ
found_at table source dest place =
    if nat_lt source most_ranks && nat_lt dest most_ranks then at_place (of_pair table source dest) place else None

-- what a table has for the message that a rank takes or finds by this act, if it does
abbrev pub found_by : List (List ℕ) → ℕ → Act → Option ℕ
found_by table rank (sends dest context tag items) = None
found_by table rank (takes source place) = found_at table source rank place
found_by table rank (hits source place) = found_at table source rank place
found_by table rank misses = None
found_by table rank (prints value) = None
