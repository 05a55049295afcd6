-- A number is kept in 64 bits digit by digit, and comes out as if it were kept at the end alone.
use Rattle.std.specs.Prelude.{◌≡◌, ℕ, ◌+◌, ◌-◌, ◌*◌, ◌^◌, ◌<◌, ◌≤◌, min, List, [], ◌∷◌, length, Option, Some, None, take, drop}
use Rattle.std.proofs.Common.{arith, refl, ap, ◌∙◌, get_or}
use Rattle.std.proofs.Math.Seq.{take-length}
use Rattle.rank_text.specs.Lines.Numbers.{digit_of, kept_of, value_behind, wide, wide_of}

-- behind the last digit a number that 64 bits hold stands as it is
pub at_end : (rest : List ℕ) (v : ℕ) → length rest < 1 → v < 2 ^ 64 → Some v ≡ wide_of (value_behind v rest)
at_end [] v h k = ap Some (omega arith)
at_end (b ∷ bs) v h k = absurd (omega arith)

-- one digit more, kept at each operation or afterwards
digit_kept : (v d m w : ℕ) → m ≡ min (v * 10) 18446744073709551615 → w ≡ min (m + d) 18446744073709551615 → wide w ≡ wide (v * 10 + d)
digit_kept v d m w h k = omega arith

-- numbers that are kept alike are so with a digit more
more_alike : (v w d : ℕ) → wide v ≡ wide w → wide (v * 10 + d) ≡ wide (w * 10 + d)
more_alike v w d h = omega arith

-- digits behind numbers that are kept alike give numbers that are kept alike
behind_alike : (v w : ℕ) (bs : List ℕ) → wide v ≡ wide w → wide_of (value_behind v bs) ≡ wide_of (value_behind w bs)
behind_alike v w [] h = ap Some h
behind_alike v w (b ∷ bs) h =
    elim (digit_of b) as (λ o. wide_of (elim o [ None ↦ None | Some d ↦ value_behind (v * 10 + d) bs ])
    ≡ wide_of (elim o [ None ↦ None | Some d ↦ value_behind (w * 10 + d) bs ]))
    [ None ↦ refl | Some d ↦ behind_alike (v * 10 + d) (w * 10 + d) bs (more_alike v w d h) ]

-- what is left behind a digit
abbrev left : List ℕ → List ℕ
left rest = take (length rest - 1) (drop 1 rest)

-- it is all but the digit
left_all : (b : ℕ) (bs : List ℕ) → left (b ∷ bs) ≡ bs
left_all b bs =
    let e : length (b ∷ bs) - 1 ≡ length bs = omega arith in
    ap (λ n. take n bs) e ∙ take-length bs

-- the number goes on with a digit
pub value_more : (rest : List ℕ) (v d m w : ℕ) → m ≡ min (v * 10) 18446744073709551615 → w ≡ min (m + d) 18446744073709551615
    → 1 ≤ length rest → Some d ≡ digit_of (get_or rest 0 0)
    → wide_of (value_behind w (left rest)) ≡ wide_of (value_behind v rest)
value_more [] v d m w e f h q = absurd (omega arith)
value_more (b ∷ bs) v d m w e f h q =
    behind_alike _ _ (left (b ∷ bs)) (digit_kept v d m w e f)
    ∙ ap (λ r. wide_of (value_behind (v * 10 + d) r)) (left_all b bs)
    ∙ ap (λ o. wide_of (elim o [ None ↦ None | Some d ↦ value_behind (v * 10 + d) bs ])) q

-- what 64 bits keep of a number is kept in 32 bits as the number is
pub narrowed : (o : Option ℕ) → kept_of (wide_of o) ≡ kept_of o
narrowed None = refl
narrowed (Some n) = ap Some (omega arith)
