-- What is printed of a number has its token.
use Rattle.std.proofs.Common.{◌≡◌, ℕ, ◌+◌, ◌-◌, ◌*◌, ◌/◌, ◌%◌, ◌^◌, ◌<◌, min, true, List, [], ◌∷◌, ◌++◌}
use Rattle.std.proofs.Common.{ap, ◌∙◌, subst, arith}
use Rattle.std.specs.Fmt.{decimal}
use Rattle.std.proofs.lemmas.Fmt.{decimal_by_steps}
use Rattle.std.proofs.lemmas.Bool.Decides.{nat_tests}
use Rattle.rank_text.specs.declared.grammar.token.Token.TheVariants as t
use Rattle.rank_text.specs.Grammar.Tokens.{is_digit}
use Rattle.rank_text.specs.Grammar.Lexes.{IsNumber, value_behind, number_token}
use Rattle.rank_text.specs.Grammar.Lexes.{Lexes, is_number}
use Rattle.rank_text.proofs.GrammarLaws.LexLaws.{number_push, value_push}
use Rattle.rank_text.proofs.PrinterLaws.PrintedPieces.{Reads, ends_number}

-- the digits are a number with this value
abbrev IsOf : ℕ → List ℕ → Type 0
IsOf n ds = IsNumber ds × (value_behind 0 ds ≡ n)

-- a number below ten is written as a digit
one_digit : (n : ℕ) → n < 10 → is_digit (48 + n) ≡ true
one_digit n h = grind (arith, nat_tests)

-- and that digit has the number's value
one_value : (n : ℕ) → 10 * 0 + ((48 + n) - 48) ≡ n
one_value n = omega arith

-- what is written last of a number is a digit
last_digit : (n : ℕ) → is_digit (48 + n % 10) ≡ true
last_digit n = let h : n % 10 < 10 = omega arith in one_digit (n % 10) h

-- the digits of a tenth of a number, with its last digit behind them, have the number's value
last_value : (n v : ℕ) → v ≡ n / 10 → 10 * v + ((48 + n % 10) - 48) ≡ n
last_value n v q = omega (arith, q)

-- what std writes of a number is one with its value
decimal_is : (n : ℕ) → n < 2 ^ 64 → IsOf n (decimal n)
decimal_is n h =
    decimal_by_steps IsOf (λ n small. ((one_digit n small, tt), one_value n)) (λ n ds large ih. (
      number_push ds (48 + n % 10) ih.0 (last_digit n),
      value_push 0 ds (48 + n % 10) ∙ last_value n (value_behind 0 ds) ih.1,
    )) n h

-- a number in range is kept whole
number_is : (n : ℕ) → n < 2 ^ 63 → number_token (decimal n) ≡ t.Number n
number_is n h =
    let v = (decimal_is n (omega (arith, h))).1 in
    let m : min n (2 ^ 63) ≡ n = omega (arith, h) in
    ap (λ z. t.Number (min z (2 ^ 63))) v ∙ ap t.Number m

-- so its digits are the token of that number
pub number_reads : (n : ℕ) → n < 2 ^ 63 → Reads (decimal n) (t.Number n ∷ [])
number_reads n h = λ line ts e l.
    subst (λ z. Lexes (decimal n ++ line) (z ∷ ts)) (number_is n h) (is_number (decimal n) line (decimal_is n (omega (arith, h))).0 (ends_number line e) l)
