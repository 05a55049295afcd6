-- A number of at most 9 digits lies below 2 ^ 32, so that it is kept as it is.
use Rattle.std.specs.Prelude.{◌≡◌, ℕ, ◌+◌, ◌*◌, ◌^◌, ◌<◌, ◌≤◌, List, [], ◌∷◌, length, Some, None}
use Rattle.std.proofs.Common.{arith, refl, ap}
use Rattle.std.proofs.Math.Nat.{pow-le-pow_right}
use Rattle.std.proofs.lemmas.Bool.Decides.{nat_tests}
use Rattle.std.proofs.lemmas.Grind.{pow_more}
use Rattle.rank_text.specs.Lines.Numbers.{decimal_of, digit_of, kept, kept_of, value_behind}

-- a digit is below ten
digit_small : (b d : ℕ) → Some d ≡ digit_of b → d < 10
digit_small b d q = grind (arith, nat_tests)

-- a number of at most 9 digits is kept as it is
small : (v k : ℕ) → v < 10 ^ k → k ≤ 9 → kept v ≡ v
small v k h l = let p : 10 ^ k ≤ 10 ^ 9 = pow-le-pow_right (omega arith) {i = k} {j = 9} l in omega arith

-- one digit more
more : (k v d : ℕ) → v < 10 ^ k → d < 10 → v * 10 + d < 10 ^ (k + 1)
more k v d h l = let p : 10 ^ (k + 1) ≡ 10 ^ k * 10 = pow_more 10 k in omega arith

-- digits behind k others, at most 9 in all, make a number that is kept as it is
few : (v k : ℕ) (bs : List ℕ) → v < 10 ^ k → k + length bs ≤ 9 → kept_of (value_behind v bs) ≡ value_behind v bs
few v k [] h l = ap Some (small v k h (omega arith))
few v k (b ∷ bs) h l =
    (elim (digit_of b) as (λ o. o ≡ digit_of b
    → kept_of (elim o [ None ↦ None | Some d ↦ value_behind (v * 10 + d) bs ]) ≡ elim o [ None ↦ None | Some d ↦ value_behind (v * 10 + d) bs ])
    [ None ↦ λ q. refl | Some d ↦ λ q. few (v * 10 + d) (k + 1) bs (more k v d h (digit_small b d q)) (omega arith) ]) refl

-- what at most 9 digits spell is kept as it is
pub nine_digits : (word : List ℕ) → length word ≤ 9 → kept_of (decimal_of word) ≡ decimal_of word
nine_digits [] h = refl
nine_digits (b ∷ bs) h = few 0 0 (b ∷ bs) (omega arith) (omega arith)
