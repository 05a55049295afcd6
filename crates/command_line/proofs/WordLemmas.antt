-- What options are given, and files in order.
use Rattle.std.proofs.Common.{◌≡◌, ◌⊎◌, ℕ, List, [], ◌∷◌, Option, Some, None, inl, inr, refl, subst}
use Rattle.std.specs.Prelude.{IfSome, slice_get}
use Rattle.std.specs.NonZero.{non_zero_u32_get}
use Rattle.std.specs.declared.num.NonZeroU32.{NonZeroU32}
use Rattle.command_line.specs.Ranges.{IsSpelledElse}
use Rattle.command_line.specs.Words.{IsSpelledIf, Spells}

-- the number that a text spells, whatever the default is
pub spelled : (default : Option ℕ) (text : List ℕ) (number : ℕ) → Spells text number
    → IsSpelledElse default (Some text) number
spelled None text number it = it
spelled (Some default) text number it = it

-- the number above 0 that a text spells, where an option is given this text
pub counted : (o : Option (List ℕ)) (text : List ℕ) (count : Option NonZeroU32) → Some text ≡ o
    → IfSome count (λ n. Spells text (non_zero_u32_get n)) → IfSome count (λ n. IsSpelledIf o (Some n))
counted o text None e it = it
counted o text (Some n) e it = subst (λ (p : Option (List ℕ)). IsSpelledIf p (Some n)) e it

-- a list has no first item, or a second one, or a first one alone. The first part is trivially true: it gives `grind` the term to match
pub one_alone : (xs : List (List ℕ)) → (slice_get xs 1 ≡ slice_get xs 1)
    × ((slice_get xs 0 ≡ None) ⊎ (((y : List ℕ) × (slice_get xs 1 ≡ Some y)) ⊎ ((x : List ℕ) × (slice_get xs 0 ≡ Some x) × (xs ≡ x ∷ []))))
one_alone [] = (refl, inl refl)
one_alone (x ∷ []) = (refl, inr (inr (x, refl, refl)))
one_alone (x ∷ y ∷ rest) = (refl, inr (inl (y, refl)))

-- it has no second item, or a third one, or two alone
pub two_alone : (xs : List (List ℕ)) → (slice_get xs 2 ≡ slice_get xs 2)
    × ((slice_get xs 1 ≡ None) ⊎ (((z : List ℕ) × (slice_get xs 2 ≡ Some z))
    ⊎ ((x : List ℕ) × (y : List ℕ) × (slice_get xs 0 ≡ Some x) × (slice_get xs 1 ≡ Some y) × (xs ≡ x ∷ y ∷ []))))
two_alone [] = (refl, inl refl)
two_alone (x ∷ []) = (refl, inl refl)
two_alone (x ∷ y ∷ []) = (refl, inr (inr (x, y, refl, refl, refl)))
two_alone (x ∷ y ∷ z ∷ rest) = (refl, inr (inl (z, refl)))
