-- The other ranks, by the places where the code looks for them.
use Rattle.std.proofs.Common.{◌≡◌, ℕ, suc, ◌+◌, ◌-◌, ◌<◌, ◌≤◌, Some, length, ◌∙◌, arith, slice_get, ap}
use Rattle.rank_machine.specs.Collectives.{others}
use Rattle.rank_machine.proofs.CollectiveParts.{length_others, below_at, above_before}

-- there is one less of them than there are ranks
pub others_less : (r n : ℕ) → r < n → length (others r 0 n) ≡ n - 1
others_less r n l = let e = length_others r 0 n (omega arith) (omega (arith, l)) in omega (arith, e)

-- a rank below r stands at its own place
pub other_below : (r n i : ℕ) → r < n → i < r → slice_get (others r 0 n) i ≡ Some i
other_below r n i l b = below_at r n i b l

-- a rank above it stands one place before
pub other_above : (r n i : ℕ) → r ≤ i → i < n - 1 → slice_get (others r 0 n) i ≡ Some (i + 1)
other_above r n i b l = above_before r n i (omega (arith, b)) (omega (arith, l)) ∙ (let z : suc i ≡ i + 1 = omega arith in ap Some z)
