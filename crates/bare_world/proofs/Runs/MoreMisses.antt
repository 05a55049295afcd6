-- A run with so many misses more, and one without so many of its newest acts, one act after another.
use Rattle.std.proofs.Common.{◌≡◌, ℕ, zero, suc, ◌+◌, List, ◌∷◌, drop, ap, arith}
use Rattle.rank_machine.specs.Acts.{misses}
use Rattle.crash_free.specs.Runs.{Passed}
use Rattle.bare_world.specs.RunIndex.{with_misses}
use Rattle.bare_world.proofs.Lists.Beginnings.{drop_more, drop_zero}

-- one miss more
pub misses_more : (r n : ℕ) (C : List Passed) → with_misses r (n + 1) C ≡ record { rank = r; act = misses } ∷ with_misses r n C
misses_more r n C = (let e : n + 1 ≡ suc n = omega arith in ap (λ z. with_misses r z C) e)

-- one act less
pub drop_next : (n : ℕ) (C : List Passed) → drop 1 (drop n C) ≡ drop (n + 1) C
drop_next n C = drop_more 1 n C

-- so many misses less
pub misses_back : (r n : ℕ) (C : List Passed) → drop n (with_misses r n C) ≡ C
misses_back r zero C = drop_zero C
misses_back r (suc n) C = misses_back r n C
