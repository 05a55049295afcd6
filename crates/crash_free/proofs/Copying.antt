-- Copies of maps of numbers.
use Rattle.std.proofs.Common.{◌≡◌, ℕ, List, refl}
use Rattle.std.specs.List.{AllZip}
use Rattle.std.proofs.lemmas.List.Elements.{same_from_all_zip}

-- entries that are clones of others are those
pub same_entries : (xs ys : List (ℕ × ℕ)) → AllZip (λ (p q : ℕ × ℕ). (q.0 ≡ p.0) × (q.1 ≡ p.1)) xs ys → ys ≡ xs
same_entries xs ys all = same_from_all_zip (λ (p q : ℕ × ℕ). (q.0 ≡ p.0) × (q.1 ≡ p.1)) xs ys all same
  where
    same : (x y : ℕ × ℕ) → (y.0 ≡ x.0) × (y.1 ≡ x.1) → y ≡ x
    same x y both = (let e : (y.0, y.1) ≡ (x.0, x.1) = rw (both.0, both.1) refl in e)
