-- The first ones of a list that is written over: so many are what was written.
use Rattle.std.proofs.Common.{◌≡◌, ℕ, ℤ, zero, suc, ◌+◌, ◌<◌, ◌≤◌, List, [], ◌∷◌, ◌++◌, length, refl, sym, ap, ◌∙◌, arith, get_or, take}
use Rattle.std.specs.Prelude.{slice_set}
use Rattle.std.proofs.lemmas.List.{take_more, take_more_set, take_all, length_push, append-nil, append_assoc}
use Rattle.crash_free.specs.Standing.{Rows, and_each, and_number, and_value, and_values}

-- one more is written over what is there
pub one_over : {A : Type 0} (xs : List A) (n : ℕ) (x : A) → n < length xs → take (n + 1) (slice_set xs n x) ≡ take n xs ++ x ∷ []
one_over xs n x low = take_more_set xs n x low

-- or comes behind all
pub one_behind : {A : Type 0} (xs : List A) (n : ℕ) (x : A) → n ≤ length xs → length xs ≤ n → take (n + 1) (xs ++ x ∷ []) ≡ take n xs ++ x ∷ []
one_behind xs n x within all =
    let long = length_push xs x in
    take_all (n + 1) (xs ++ x ∷ []) (omega (arith, all, long)) ∙ ap (λ z. z ++ x ∷ []) (sym (take_all n xs all))

-- the first ones of the first ones are those
pub take_again : {A : Type 0} (xs : List A) (n : ℕ) → take n (take n xs) ≡ take n xs
take_again [] zero = refl
take_again [] (suc n) = refl
take_again (x ∷ xs) zero = refl
take_again (x ∷ xs) (suc n) = ap (λ z. x ∷ z) (take_again xs n)

-- values that are written one by one
each_value : (c : Rows) (xs : List ℤ) → and_each and_value (and_number c (length xs)) xs ≡ and_values c xs
each_value c xs = go (and_number c (length xs)) xs
  where
    go : (c : Rows) (xs : List ℤ) → and_each and_value c xs ≡ record { numbers = c.numbers; values = c.values ++ xs }
    go c [] = rw (append-nil c.values) refl
    go c (x ∷ xs) = go (and_value c x) xs ∙ rw (append_assoc c.values (x ∷ []) xs) refl

-- one more of them
pub value_more : (c now next : Rows) (xs : List ℤ) (i : ℕ) (x d : ℤ) → i < length xs → now ≡ and_each and_value c (take i xs)
    → x ≡ get_or xs i d → next ≡ and_value now x → next ≡ and_each and_value c (take (i + 1) xs)
value_more c now next xs i x d low before is one =
    one ∙ ap (and_value now) is ∙ ap (λ z. and_value z (get_or xs i d)) before
    ∙ sym (ap (and_each and_value c) (take_more xs i d low) ∙ push c (take i xs) (get_or xs i d))
  where
    push : (c : Rows) (xs : List ℤ) (x : ℤ) → and_each and_value c (xs ++ x ∷ []) ≡ and_value (and_each and_value c xs) x
    push c [] x = refl
    push c (y ∷ xs) x = push (and_value c y) xs x

-- and then all are written
pub all_values : (c first last : Rows) (xs : List ℤ) (i : ℕ) → length xs ≤ i → first ≡ and_number c (length xs)
    → last ≡ and_each and_value first (take i xs) → last ≡ and_values c xs
all_values c first last xs i all begun written =
    written ∙ ap (and_each and_value first) (take_all i xs all) ∙ ap (λ z. and_each and_value z xs) begun ∙ each_value c xs
