-- Numbers of so many digits, and numbers with spaces in front.
use Rattle.std.proofs.Common.{◌≡◌, ℕ, zero, suc, ◌+◌, ◌*◌, ◌^◌, ◌<◌, ◌≤◌, ◌-◌, ◌/◌, ◌%◌, List, [], ◌∷◌, ◌++◌}
use Rattle.std.proofs.Common.{length, length-append, refl, ap, ◌∙◌, arith}
use Rattle.std.proofs.lemmas.Fmt.{decimal_step, decimal_digit, length-decimal-le, decimal_nonempty}
use Rattle.std.specs.Fmt.{decimal, styled_decimal, styled_text, padded, take_chars, char_count, format_spec}
use Rattle.std.proofs.Padding.{padded_integral_right, styled_decimal_is, repeat_ascii}
use Rattle.std.specs.Prelude.{codes}
use Rattle.std.proofs.lemmas.Bool.{ne_eqb}
use Rattle.std.proofs.lemmas.List.{append_assoc}
use Rattle.run_shown.specs.Trace.Columns.{digit_count, head_text, right, spaces}

-- powers of ten aren't 0
power_some : (k : ℕ) → 0 < 10 ^ k
power_some zero = omega arith
power_some (suc k) = omega (arith, power_some k)

-- a number from this power of ten on has more digits than the power
more_than : (k n : ℕ) → n < 2 ^ 64 → 10 ^ k ≤ n → k < length (decimal n)
more_than zero n small from = decimal_nonempty n small
more_than (suc k) n small from =
    let some = power_some k in
    let ten : 10 ≤ n = omega (arith, some, from) in
    let shorter = length-append (decimal (n / 10)) ((48 + n % 10) ∷ []) in
    rw (decimal_step n ten small) (omega (arith, shorter, more_than k (n / 10) (omega arith) (omega (arith, from))))

-- one between two powers of ten has one digit more than the lower
pub counted : (k n : ℕ) → n < 2 ^ 64 → 10 ^ k ≤ n → n < 10 * 10 ^ k → k + 1 ≡ digit_count n
counted k n small from to =
    omega (arith, more_than k n small from, length-decimal-le (suc k) n (omega arith) (omega (arith, to)) small)

-- 0 has one digit
pub one_digit : (n : ℕ) → n ≡ 0 → 1 ≡ digit_count n
one_digit n none = rw (none, decimal_digit 0 (omega arith)) refl

-- what the options for a column write is the number with spaces in front
pub padded_right : (width n : ℕ) → styled_decimal (format_spec 32 3 0 width (2 ^ 64 - 1)) n ≡ right width n
padded_right width n = styled_decimal_is (format_spec 32 3 0 width (2 ^ 64 - 1)) n
    ∙ padded_integral_right (format_spec 32 3 0 width (2 ^ 64 - 1)) (decimal n) refl refl (λ e. omega (arith, e)) (λ e. omega (arith, e)) (omega arith)

-- and of the word above a column, the word with spaces in front
word_right : (width : ℕ) → 5 ≤ width → styled_text (format_spec 32 3 0 width (2 ^ 64 - 1)) (codes "clock") ≡ spaces (width - 5) ++ codes "clock"
unfolding padded take_chars char_count
word_right width from =
    let none : width - 5 - (width - 5) ≡ 0 = omega arith in
    rw (ne_eqb width 0 (λ e. omega (arith, e, from)), none, repeat_ascii (width - 5) 32 (omega arith)) refl

-- so the head is written
pub head_from : (width : ℕ) (word : List ℕ) → word ≡ styled_text (format_spec 32 3 0 width (2 ^ 64 - 1)) (codes "clock") → 5 ≤ width
    → codes "rank " ++ (word ++ codes "  line  act\n") ≡ head_text width
head_from width word is from =
    ap (λ z. codes "rank " ++ (z ++ codes "  line  act\n")) (is ∙ word_right width from)
    ∙ ap (λ z. codes "rank " ++ z) (append_assoc (spaces (width - 5)) (codes "clock") (codes "  line  act\n"))
