-- What is found is the first that is free, or none is.
use Rattle.std.proofs.Common.{◌≡◌, ◌≤◌, ◌<◌, ◌+◌, ◌⊎◌, ℕ, Bool, false, true, List, codes, arith, inl, inr, refl, subst, sym}
use Rattle.std.proofs.Math.Dec.{ltb}
use Rattle.std.proofs.lemmas.Bool.{ltb-false, ltb-true}
use Rattle.rank_text.specs.Grammar.Forms.{Form}
use Rattle.telling.specs.Free.{HasFreeName, HasNoneFree, IsDigit, is_taken, numbered}
use Rattle.telling.specs.declared.added.Added.{Added}

-- below one more, or this one
below_or_is : (n k : ℕ) → n < k + 1 → (n < k) ⊎ (n ≡ k)
below_or_is n k less = go (ltb n k) refl
  where
    go : (b : Bool) → ltb n k ≡ b → (n < k) ⊎ (n ≡ k)
    go true e = inl (ltb-true n k e)
    go false e = inr (let at_least = ltb-false n k e in omega (arith, less, at_least))

-- a second digit more is taken
pub one_more : (fs : List Form) (tens k : ℕ) → ((n : ℕ) → 48 ≤ n → n < k → is_taken tens n fs ≡ true) → is_taken tens k fs ≡ true
    → (n : ℕ) → 48 ≤ n → n < k + 1 → is_taken tens n fs ≡ true
one_more fs tens k before here n low less = go (below_or_is n k less)
  where
    go : (n < k) ⊎ (n ≡ k) → is_taken tens n fs ≡ true
    go (inl lower) = before n low lower
    go (inr same) = subst (λ (m : ℕ). is_taken tens m fs ≡ true) (sym same) here

-- each second digit is
pub all_digits : (fs : List Form) (tens k : ℕ) → 57 < k → ((n : ℕ) → 48 ≤ n → n < k → is_taken tens n fs ≡ true)
    → (n : ℕ) → IsDigit n → is_taken tens n fs ≡ true
all_digits fs tens k past before n digit =
    let low = digit.0 in
    let high = digit.1 in
    before n low (omega (arith, past, high))

-- a first digit more is taken with each second one
pub tens_more : (fs : List Form) (k : ℕ) → ((n ones : ℕ) → 48 ≤ n → n < k → IsDigit ones → is_taken n ones fs ≡ true)
    → ((ones : ℕ) → IsDigit ones → is_taken k ones fs ≡ true) → (n ones : ℕ) → 48 ≤ n → n < k + 1 → IsDigit ones → is_taken n ones fs ≡ true
tens_more fs k before here n ones low less digit = go (below_or_is n k less)
  where
    go : (n < k) ⊎ (n ≡ k) → is_taken n ones fs ≡ true
    go (inl lower) = before n ones low lower digit
    go (inr same) = subst (λ (m : ℕ). is_taken m ones fs ≡ true) (sym same) (here ones digit)

-- so no name is free
pub all_names : (fs : List Form) (k : ℕ) → 57 < k → ((n ones : ℕ) → 48 ≤ n → n < k → IsDigit ones → is_taken n ones fs ≡ true) → HasNoneFree fs
all_names fs k past before = (λ tens ones digit other.
    let low = digit.0 in
    let high = digit.1 in
    before tens ones low (omega (arith, past, high)) other)

-- a name with a number that is free
pub has_free_name : (fs : List Form) (a : Added) (tens ones : ℕ) → 48 ≤ tens → tens ≤ 57 → IsDigit ones
    → a.reply ≡ numbered (codes "reply_") tens ones → is_taken tens ones fs ≡ false → HasFreeName fs a
has_free_name fs a tens ones low high digit reply free =
    record { tens = tens; ones = ones; digits = ((low, high), digit); reply = reply; free = free }
