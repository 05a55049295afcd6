-- A part that is kept has the first so many numbers and values of a walk: one more is the same, until
-- all of them came.
use Rattle.std.proofs.Common.{◌≡◌, ℕ, ◌+◌, ◌<◌, ◌≤◌, List, [], ◌∷◌, ◌++◌, length, ap, ◌∙◌, subst, get_or, take}
use Rattle.std.proofs.lemmas.List.{take_more, take_all}
use Rattle.crash_free.specs.Standing.{Rows, beginning}
use Rattle.crash_free.proofs.Rows.{same_rows}

-- one more that is the next of them
pub one_more : {A : Type 0} (xs ys : List A) (n : ℕ) (x d : A) → xs ≡ ys → n < length xs → get_or xs n d ≡ x → take (n + 1) ys ≡ take n ys ++ x ∷ []
one_more xs ys n x d same low is =
    subst (λ zs. take (n + 1) zs ≡ take n zs ++ x ∷ []) same (take_more xs n d low ∙ ap (λ z. take n xs ++ z ∷ []) is)

-- as many as there are is all of them
pub all_came : (c : Rows) (n k : ℕ) → length c.numbers ≤ n → length c.values ≤ k → beginning n k c ≡ c
all_came c n k numbers values = same_rows (beginning n k c) c (take_all n c.numbers numbers) (take_all k c.values values)
