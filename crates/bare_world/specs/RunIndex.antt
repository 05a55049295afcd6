-- The run that a world keeps, and its index: for each rank how many acts it made, and the clocks of
-- what it sent to each rank, so that no look-up walks the run.
use Rattle.std.specs.Prelude.{◌≡◌, ℕ, zero, suc, ◌+◌, ◌-◌, ◌<◌, List, [], ◌∷◌, ◌++◌, length, map, take, replicate, slice_get, slice_set}
use Rattle.std.specs.Prelude.{slice_index_or}
use Rattle.std.specs.Prelude.{Option, Some, option_map}
use Rattle.rank_machine.specs.Acts.{Act, sends, takes, hits, misses, prints}
use Rattle.crash_free.specs.Points.{first_acts}
use Rattle.crash_free.specs.Runs.{Passed, at_place, history, sent}

-- a run of so many ranks, the newest act first
pub record RunValue : Type 0 where
  pub ranks : ℕ
  pub acts : List Passed

-- the run after so many misses more of a rank
abbrev pub with_misses : ℕ → ℕ → List Passed → List Passed
with_misses r zero C = C
with_misses r (suc n) C = record { rank = r; act = misses } ∷ with_misses r n C

-- the clocks of what one rank sent to another, in order
abbrev pub clocks : List Passed → ℕ → ℕ → List ℕ
clocks C s d = map (λ m. m.clock) (sent C s d)

-- the clock of the message at this place, from 1, of what one rank sent to another
abbrev pub clock_at : List Passed → ℕ → ℕ → ℕ → Option ℕ
clock_at C s d j = option_map (λ m. m.clock) (at_place (sent C s d) j)

-- after the first k acts of a run comes one of this rank
abbrev pub IsNext : List Passed → ℕ → ℕ → Type 0
IsNext C k r = (a : Act) × (first_acts (k + 1) C ≡ record { rank = r; act = a } ∷ first_acts k C) × (k < length C)

-- of one rank, how many acts it made, and for each rank the clocks of what it sent there
pub record MadeValue : Type 0 where
  pub count : ℕ
  pub clocks : List (List ℕ)

-- no act
abbrev pub none_made : ℕ → MadeValue
none_made n = record { count = 0; clocks = replicate n [] }

-- the clocks for each rank, after an act with this clock
abbrev pub clocks_with : ℕ → Act → List (List ℕ) → List (List ℕ)
clocks_with c (sends d context tag items) ks = slice_set ks d (slice_index_or ks d [] ++ c ∷ [])
clocks_with c (takes source place) ks = ks
clocks_with c (hits source place) ks = ks
clocks_with c misses ks = ks
clocks_with c (prints value) ks = ks

-- the clocks for each rank, without the last act
abbrev pub clocks_without : Act → List (List ℕ) → List (List ℕ)
clocks_without (sends d context tag items) ks = let old = slice_index_or ks d [] in slice_set ks d (take (length old - 1) old)
clocks_without (takes source place) ks = ks
clocks_without (hits source place) ks = ks
clocks_without misses ks = ks
clocks_without (prints value) ks = ks

-- with one more act
abbrev pub made_with : MadeValue → Act → MadeValue
made_with m act = record { count = m.count + 1; clocks = clocks_with (m.count + 1) act m.clocks }

-- without the last act
abbrev pub made_without : MadeValue → Act → MadeValue
made_without m act = record { count = m.count - 1; clocks = clocks_without act m.clocks }

-- this is what a rank made in a run of n ranks
pub record IsMade (n : ℕ) (C : List Passed) (r : ℕ) (m : MadeValue) : Type 0 where
  pub count : m.count ≡ length (history C r)
  pub width : length m.clocks ≡ n
  pub clocks : (d : ℕ) (ks : List ℕ) → slice_get m.clocks d ≡ Some ks → ks ≡ clocks C r d

-- each act of a run is of one of n ranks
abbrev pub AreOf : ℕ → List Passed → Type 0
AreOf n [] = Unit {0}
AreOf n (p ∷ C) = (p.rank < n) × AreOf n C

-- the index says of each of the n ranks what it made in the run
pub record IsIndexed (n : ℕ) (C : List Passed) (index : List MadeValue) : Type 0 where
  pub of_ranks : AreOf n C
  pub width : length index ≡ n
  pub made : (r : ℕ) (m : MadeValue) → slice_get index r ≡ Some m → IsMade n C r m
