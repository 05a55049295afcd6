-- The tokens of a line as a grammar: spaces between tokens are free, and the longest token that can
-- stand somewhere stands there (the language's own manual, docs/LANGUAGE.md).
use Rattle.std.specs.Prelude.{◌≡◌, ℕ, ◌+◌, ◌-◌, ◌*◌, ◌^◌, min, List, [], ◌∷◌, ◌++◌}
use Rattle.std.specs.Prelude.{Bool, true, false, ◌&&◌, ◌||◌, nat_eq, take, codes, Some, None}
use Rattle.rank_text.specs.declared.grammar.token.Operator.TheVariants.{Add, Subtract, Multiply, Divide, Remainder}
use Rattle.rank_text.specs.declared.grammar.token.Operator.TheVariants.{Equal, NotEqual, Less, LessEqual, Greater, GreaterEqual}
use Rattle.rank_text.specs.declared.grammar.token.Token.{Token}
use Rattle.rank_text.specs.declared.grammar.token.Token.TheVariants as t
use Rattle.rank_text.specs.Grammar.Name.{kept_bytes}
use Rattle.rank_text.specs.Grammar.Tokens.{is_letter, is_digit, is_word_byte, found_in, reserved}

-- the byte of a space
abbrev pub space : ℕ
space = 32

-- each byte passes the test
abbrev pub AllAre : (ℕ → Bool) → List ℕ → Type 0
AllAre test [] = Unit {0}
AllAre test (b ∷ bs) = (test b ≡ true) × AllAre test bs

-- the line ends, or goes on with a byte that fails the test
abbrev pub StopsAt : (ℕ → Bool) → List ℕ → Type 0
StopsAt test [] = Unit {0}
StopsAt test (b ∷ bs) = test b ≡ false

-- a word is a letter or `_`, and then letters, digits and `_`
abbrev pub IsWord : List ℕ → Type 0
IsWord [] = ⊥
IsWord (b ∷ bs) = (is_letter b ≡ true) × AllAre is_word_byte bs

-- a word's token is that of a reserved word, or else a name, of which one byte above the limit is kept
abbrev pub word_token : List ℕ → Token
word_token w = elim (found_in reserved w) [ None ↦ t.Name (take kept_bytes w) | Some token ↦ token ]

-- a name is a word that isn't reserved
abbrev pub IsName : List ℕ → Type 0
IsName x = IsWord x × (found_in reserved x ≡ None)

-- a number is one digit or more
abbrev pub IsNumber : List ℕ → Type 0
IsNumber [] = ⊥
IsNumber (b ∷ bs) = (is_digit b ≡ true) × AllAre is_digit bs

-- the value of decimal digits behind others that have this value
abbrev pub value_behind : ℕ → List ℕ → ℕ
value_behind n [] = n
value_behind n (d ∷ ds) = value_behind (10 * n + (d - 48)) ds

-- a number's token is its value, kept up to 2 ^ 63, one above the greatest
abbrev pub number_token : List ℕ → Token
number_token ds = t.Number (min (value_behind 0 ds) (2 ^ 63))

-- the symbols and their tokens
pub data Symbol : List ℕ → Token → Type 0 where
  is_add : Symbol (codes "+") (t.Operator Add)
  is_subtract : Symbol (codes "-") (t.Operator Subtract)
  is_multiply : Symbol (codes "*") (t.Operator Multiply)
  is_divide : Symbol (codes "/") (t.Operator Divide)
  is_remainder : Symbol (codes "%") (t.Operator Remainder)
  is_open_parenthesis : Symbol (codes "(") t.OpenParenthesis
  is_close_parenthesis : Symbol (codes ")") t.CloseParenthesis
  is_open_bracket : Symbol (codes "[") t.OpenBracket
  is_close_bracket : Symbol (codes "]") t.CloseBracket
  is_comma : Symbol (codes ",") t.Comma
  is_assign : Symbol (codes "=") t.Assign
  is_less : Symbol (codes "<") (t.Operator Less)
  is_greater : Symbol (codes ">") (t.Operator Greater)
  is_equal : Symbol (codes "==") (t.Operator Equal)
  is_not_equal : Symbol (codes "!=") (t.Operator NotEqual)
  is_less_equal : Symbol (codes "<=") (t.Operator LessEqual)
  is_greater_equal : Symbol (codes ">=") (t.Operator GreaterEqual)

-- a byte makes a longer symbol of a symbol: `=` behind `=`, `<` or `>`
abbrev pub extends : List ℕ → ℕ → Bool
extends (c ∷ []) b = (nat_eq c 61 || nat_eq c 60 || nat_eq c 62) && nat_eq b 61
extends _ b = false

-- the tokens of a line: it ends, or begins with a space, a word, a number or a symbol, each as long as it can be
pub data Lexes : List ℕ → List Token → Type 0 where
  is_end : Lexes [] []
  is_space : {line : List ℕ} {ts : List Token} → Lexes line ts → Lexes (space ∷ line) ts
  is_word : (w line : List ℕ) {ts : List Token}
      → IsWord w → StopsAt is_word_byte line → Lexes line ts → Lexes (w ++ line) (word_token w ∷ ts)
  is_number : (ds line : List ℕ) {ts : List Token}
      → IsNumber ds → StopsAt is_digit line → Lexes line ts → Lexes (ds ++ line) (number_token ds ∷ ts)
  is_symbol : (w line : List ℕ) {token : Token} {ts : List Token}
      → Symbol w token → StopsAt (extends w) line → Lexes line ts → Lexes (w ++ line) (token ∷ ts)
