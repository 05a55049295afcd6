-- What stands in a list after one of its elements was replaced.
use Rattle.std.proofs.Common.{◌≡◌, ℕ, zero, suc, ◌⊎◌, inl, inr, ⊎_elim, List, [], ◌∷◌, Some, refl, ap, arith, slice_get, slice_set}

-- what stands somewhere after a replacement stood there before, or is what was put there
pub slice_set-get : {A : Type 0} (xs : List A) (i k : ℕ) (x y : A) → slice_get (slice_set xs i y) k ≡ Some x
    → ((k ≡ i) × (x ≡ y)) ⊎ ((k ≡ i → ⊥) × (slice_get xs k ≡ Some x))
slice_set-get [] i k x y e = absurd cc
slice_set-get (z ∷ xs) zero zero x y e = inl (refl, cc)
slice_set-get (z ∷ xs) zero (suc k) x y e = inr (λ q. omega arith, e)
slice_set-get (z ∷ xs) (suc i) zero x y e = inr (λ q. omega arith, e)
slice_set-get (z ∷ xs) (suc i) (suc k) x y e =
    ⊎_elim (λ h. inl (ap suc h.0, h.1)) (λ h. inr (λ q. h.0 (omega arith), h.1)) (slice_set-get xs i k x y e)

-- where something stands after a replacement something stood before
slice_set_had : {A : Type 0} (xs : List A) (i : ℕ) (x y : A) → slice_get (slice_set xs i y) i ≡ Some x → (z : A) × (slice_get xs i ≡ Some z)
slice_set_had [] i x y e = absurd cc
slice_set_had (z ∷ xs) zero x y e = (z, refl)
slice_set_had (z ∷ xs) (suc i) x y e = slice_set_had xs i x y e

-- a statement of each element holds after a replacement, where it holds of what was put and of the others before
pub replaced_keeps : {A : Type 0} (P : ℕ → A → Type 0) (xs : List A) (i : ℕ) (y : A)
    → ((k : ℕ) (x : A) → (k ≡ i → ⊥) → slice_get xs k ≡ Some x → P k x)
    → ((x : A) → slice_get xs i ≡ Some x → P i y)
    → (k : ℕ) (x : A) → slice_get (slice_set xs i y) k ≡ Some x → P k x
replaced_keeps P xs i y all new k x e = go (slice_set-get xs i k x y e)
  where
    go : ((k ≡ i) × (x ≡ y)) ⊎ ((k ≡ i → ⊥) × (slice_get xs k ≡ Some x)) → P k x
    go (inr h) = all k x h.0 h.1
    go (inl h) =
        let there : slice_get (slice_set xs i y) i ≡ Some x = rw h.0 at e in
        let had = slice_set_had xs i x y there in
        rw (h.0, h.1) (new had.0 had.1)

-- what stands somewhere may be put there
pub set_same : {A : Type 0} (xs : List A) (i : ℕ) (x : A) → slice_get xs i ≡ Some x → slice_set xs i x ≡ xs
set_same [] i x e = absurd cc
set_same (y ∷ xs) zero x e = let q : y ≡ x = cc in rw q refl
set_same (y ∷ xs) (suc i) x e = ap (λ z. y ∷ z) (set_same xs i x e)
