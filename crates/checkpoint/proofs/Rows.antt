-- Rows of items that are legal each behind those before it, and lists in which each item, or each pair, keeps a rule.
use Rattle.std.proofs.Common.{◌≡◌, zero, suc, List, [], ◌∷◌, ◌++◌, length, get_or, All, refl, subst, arith}
use Rattle.std.specs.Prelude.{AllPairs}
use Rattle.std.proofs.lemmas.List.{length-append, get_or_append_left}
use Rattle.checkpoint.specs.Legal.{AllAfter}

-- what holds of each item holds of each but the first
pub all_rest : {A : Type 0} (P : A → Type 0) (x : A) (xs : List A) → All P (x ∷ xs) → All P xs
all_rest P x xs each = λ k d low. each (suc k) d (omega (arith, low))

-- and what holds of each pair
pub pairs_rest : {A : Type 0} (R : A → A → Type 0) (x : A) (xs : List A) → AllPairs R (x ∷ xs) → AllPairs R xs
pairs_rest R x xs pairs = λ i j d before low. pairs (suc i) (suc j) d (omega (arith, before)) (omega (arith, low))

-- what holds of the first and each later one
pub pairs_first : {A : Type 0} (R : A → A → Type 0) (x : A) (xs : List A) → AllPairs R (x ∷ xs) → All (R x) xs
pairs_first R x xs pairs = λ k d low. pairs zero (suc k) d (omega arith) (omega (arith, low))

-- what holds of each item holds of each at the front
pub all_front : {A : Type 0} (P : A → Type 0) (xs ys : List A) → All P (xs ++ ys) → All P xs
all_front P xs ys each = λ k d low.
    let long = length-append xs ys in
    subst P (get_or_append_left xs ys d k low) (each k d (omega (arith, long, low)))

-- and what holds of each pair
pub pairs_front : {A : Type 0} (R : A → A → Type 0) (xs ys : List A) → AllPairs R (xs ++ ys) → AllPairs R xs
pairs_front R xs ys pairs = λ i j d before low.
    let long = length-append xs ys in
    subst (λ x. R x (get_or xs j d)) (get_or_append_left xs ys d i (omega (arith, before, low)))
    (subst (λ x. R (get_or (xs ++ ys) i d) x) (get_or_append_left xs ys d j low) (pairs i j d before (omega (arith, long, low))))

-- the item at the seam of two lists
get_or-seam : {A : Type 0} (before : List A) (x d : A) (xs : List A) → get_or (before ++ x ∷ xs) (length before) d ≡ x
get_or-seam [] x d xs = refl
get_or-seam (y ∷ before) x d xs = get_or-seam before x d xs

-- what holds of each pair holds of each item before the seam and the one there
pub pairs_seam : {A : Type 0} (R : A → A → Type 0) (before : List A) (x : A) (xs : List A) → AllPairs R (before ++ x ∷ xs)
    → All (λ y. R y x) before
pairs_seam R before x xs pairs = λ k d low.
    let long = length-append before (x ∷ xs) in
    subst (λ y. R y x) (get_or_append_left before (x ∷ xs) d k low)
    (subst (λ y. R (get_or (before ++ x ∷ xs) k d) y) (get_or-seam before x d xs) (pairs k (length before) d low (omega (arith, long))))

-- a rule that doesn't look at what stands before
pub row_of : {A : Type 0} (P : A → Type 0) (before xs : List A) → All P xs → AllAfter (λ front. P) before xs
row_of P before [] each = tt
row_of P before (x ∷ xs) each = (each zero x (omega arith), row_of P (before ++ x ∷ []) xs (all_rest P x xs each))

-- what each item of a row keeps
pub all_of_row : {A : Type 0} (Is : List A → A → Type 0) (P : A → Type 0) → ((before : List A) (x : A) → Is before x → P x)
    → (before xs : List A) → AllAfter Is before xs → All P xs
all_of_row Is P gives before [] row k d low = absurd (omega (arith, low))
all_of_row Is P gives before (x ∷ xs) row zero d low = gives before x row.0
all_of_row Is P gives before (x ∷ xs) row (suc k) d low = all_of_row Is P gives (before ++ x ∷ []) xs row.1 k d (omega (arith, low))
