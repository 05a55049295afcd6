-- Two names of a program are two names in C. A name with an ending is longer than any name of a program, so it is none
-- of those without; and what has the same ending differs in front of it.
use Rattle.std.proofs.Common.{◌≡◌, ℕ, ◌+◌, ◌≤◌, Bool, true, false, List, [], ◌∷◌, ◌++◌, codes, length, refl, ap, ◌∙◌, sym, arith, if◌then◌else◌}
use Rattle.std.proofs.lemmas.Bool.{false≢true}
use Rattle.std.proofs.lemmas.List.{append_cancel_right, append-nil, length-append}
use Rattle.c_program.specs.Names.{c_name, ending_of, is_reserved}

-- the ending
abbrev ending : List ℕ
ending = codes "_of_this_program"

-- a name with the ending or without
abbrev ended : Bool → List ℕ → List ℕ
ended b x = x ++ (if b then ending else [])

-- a reserved name has a letter
some_letter : (x : List ℕ) → is_reserved x ≡ true → 1 ≤ length x
some_letter [] e = absurd (false≢true e)
some_letter (b ∷ bs) e = omega arith

-- a name with the ending has more than 16 letters
too_long : (x y : List ℕ) → 1 ≤ length x → length y ≤ 16 → x ++ ending ≡ y → ⊥
too_long x y some few e =
    let n : length (x ++ ending) ≡ length x + 16 = length-append x ending in
    let m : length (x ++ ending) ≡ length y = ap length e in
    omega (arith, some, few, n, m)

-- what becomes the same is the same
same : (b c : Bool) (x y : List ℕ) → (b ≡ true → 1 ≤ length x) → (c ≡ true → 1 ≤ length y)
    → length x ≤ 16 → length y ≤ 16 → ended b x ≡ ended c y → x ≡ y
same true true x y p q few few' e = append_cancel_right x y ending e
same true false x y p q few few' e = absurd (too_long x y (p refl) few' (e ∙ append-nil y))
same false true x y p q few few' e = absurd (too_long y x (q refl) few (sym e ∙ append-nil x))
same false false x y p q few few' e = append_cancel_right x y [] e

-- two names that become the same name in C are the same
pub same_name : (x y : List ℕ) → length x ≤ 16 → length y ≤ 16 → c_name x ≡ c_name y → x ≡ y
unfolding ending_of
same_name x y few few' e = same (is_reserved x) (is_reserved y) x y (some_letter x) (some_letter y) few few' e
