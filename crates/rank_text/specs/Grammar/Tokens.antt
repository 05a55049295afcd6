-- The tokens of a line, read a byte at a time (the language's own manual, docs/LANGUAGE.md).
--
-- `Lexes` says the same as a grammar, without what is pending.
use Rattle.std.specs.Prelude.{ℕ, ◌+◌, ◌-◌, ◌*◌, ◌^◌, min, List, [], ◌∷◌, ◌++◌, Bool, ◌&&◌, ◌||◌, nat_eq, nat_le, take, codes, Option, Some, None, if◌then◌else◌}
use Rattle.std.specs.Str.{bytes_eq}
use Rattle.rank_text.specs.Grammar.Name.{kept_bytes}
use Rattle.rank_text.specs.declared.grammar.token.Operator.TheVariants.{Add, Subtract, Multiply, Divide, Remainder}
use Rattle.rank_text.specs.declared.grammar.token.Operator.TheVariants.{Equal, NotEqual, Less, LessEqual, Greater, GreaterEqual}
use Rattle.rank_text.specs.declared.grammar.token.Reading.TheVariants as reads
use Rattle.rank_text.specs.declared.grammar.token.Reduction.TheVariants as reduces
use Rattle.rank_text.specs.declared.grammar.token.Keyword.TheVariants as k
use Rattle.rank_text.specs.declared.grammar.token.Token.{Token}
use Rattle.rank_text.specs.declared.grammar.token.Token.TheVariants as t

-- a number lies between two others, or is one of them
abbrev pub is_between : ℕ → ℕ → ℕ → Bool
is_between low high b = nat_le low b && nat_le b high

-- a decimal digit
abbrev pub is_digit : ℕ → Bool
is_digit b = is_between 48 57 b

-- a letter or `_`
abbrev pub is_letter : ℕ → Bool
is_letter b = is_between 65 90 b || is_between 97 122 b || nat_eq b 95

-- a letter, `_` or a digit
abbrev pub is_word_byte : ℕ → Bool
is_word_byte b = is_letter b || is_digit b

-- what a table has for a word
abbrev pub found_in : List (List ℕ × Token) → List ℕ → Option Token
found_in [] w = None
found_in (r ∷ rs) w = if bytes_eq w r.0 then Some r.1 else found_in rs w

-- the words that declare, set and choose
unfoldable pub control_words : List (List ℕ × Token)
control_words =
    (codes "var", t.Keyword k.Var)
    ∷ (codes "array", t.Keyword k.Array)
    ∷ (codes "let", t.Keyword k.Let)
    ∷ (codes "if", t.Keyword k.If)
    ∷ (codes "else", t.Keyword k.Else)
    ∷ (codes "end", t.Keyword k.End)
    ∷ (codes "while", t.Keyword k.While)
    ∷ []

-- the words that send, receive, print and gather
unfoldable pub message_words : List (List ℕ × Token)
message_words =
    (codes "send", t.Keyword k.Send)
    ∷ (codes "recv", t.Keyword k.Recv)
    ∷ (codes "probe", t.Keyword k.Probe)
    ∷ (codes "iprobe", t.Keyword k.Iprobe)
    ∷ (codes "print", t.Keyword k.Print)
    ∷ (codes "barrier", t.Keyword k.Barrier)
    ∷ (codes "bcast", t.Keyword k.Bcast)
    ∷ (codes "reduce", t.Keyword k.Reduce)
    ∷ []

-- the words for what a rank can only read
unfoldable pub reading_words : List (List ℕ × Token)
reading_words =
    (codes "rank", t.Reading reads.Rank)
    ∷ (codes "size", t.Reading reads.Size)
    ∷ (codes "source", t.Reading reads.Source)
    ∷ (codes "gottag", t.Reading reads.Tag)
    ∷ (codes "count", t.Reading reads.Count)
    ∷ []

-- the words that stand for an argument: any source or tag, and how a reduction combines
unfoldable pub argument_words : List (List ℕ × Token)
argument_words =
    (codes "any", t.Any)
    ∷ (codes "sum", t.Reduction reduces.Sum)
    ∷ (codes "max", t.Reduction reduces.Max)
    ∷ (codes "min", t.Reduction reduces.Min)
    ∷ []

-- the reserved words, each with its token
abbrev pub reserved : List (List ℕ × Token)
reserved = control_words ++ message_words ++ reading_words ++ argument_words

-- the token of a word: a reserved word's, or else a name
abbrev pub word_or_name : List ℕ → Token
word_or_name w = elim (found_in reserved w) [ None ↦ t.Name w | Some token ↦ token ]

-- a number with one digit more, kept up to 2 ^ 63, one above the greatest
abbrev pub with_digit : ℕ → ℕ → ℕ
with_digit n b = min (10 * n + (b - 48)) (2 ^ 63)

-- what may still grow by the next byte: a word, kept up to one byte above the limit, a number,
-- a sign that `=` may follow, or a token that is whole
pub data Pending : Type 0 where
  nothing : Pending
  word : (bytes : List ℕ) → Pending
  digits : (value : ℕ) → Pending
  sign : (byte : ℕ) → Pending
  whole : (token : Token) → Pending

-- the byte is a sign that `=` may follow
abbrev pub is_sign : ℕ → Bool
is_sign b = nat_eq b 61 || nat_eq b 60 || nat_eq b 62 || nat_eq b 33

-- the token of a sign that `=` doesn't follow
abbrev pub lone_sign : ℕ → Option Token
lone_sign b =
    if nat_eq b 61 then Some t.Assign else (
    if nat_eq b 60 then Some (t.Operator Less) else (
    if nat_eq b 62 then Some (t.Operator Greater) else None))

-- the token of a sign and `=`
abbrev pub with_equal : ℕ → Token
with_equal b =
    if nat_eq b 61 then t.Operator Equal else (
    if nat_eq b 60 then t.Operator LessEqual else (
    if nat_eq b 62 then t.Operator GreaterEqual else t.Operator NotEqual))

-- the token of a byte that stands for itself
abbrev pub single : ℕ → Option Token
single b =
    if nat_eq b 43 then Some (t.Operator Add) else (
    if nat_eq b 45 then Some (t.Operator Subtract) else (
    if nat_eq b 42 then Some (t.Operator Multiply) else (
    if nat_eq b 47 then Some (t.Operator Divide) else (
    if nat_eq b 37 then Some (t.Operator Remainder) else (
    if nat_eq b 40 then Some t.OpenParenthesis else (
    if nat_eq b 41 then Some t.CloseParenthesis else (
    if nat_eq b 91 then Some t.OpenBracket else (
    if nat_eq b 93 then Some t.CloseBracket else (
    if nat_eq b 44 then Some t.Comma else None)))))))))

-- no token, or the one
abbrev pub listed : Option Token → Option (List Token)
listed None = None
listed (Some token) = Some (token ∷ [])

-- the tokens of what is pending where it doesn't grow any more, or none where it is no token
abbrev pub flushed : Pending → Option (List Token)
flushed nothing = Some []
flushed (word w) = Some (word_or_name w ∷ [])
flushed (digits n) = Some (t.Number n ∷ [])
flushed (sign b) = listed (lone_sign b)
flushed (whole token) = Some (token ∷ [])

-- a token that is whole, as what is pending
abbrev pub held : Option Token → Option Pending
held None = None
held (Some token) = Some (whole token)

-- what begins with a byte, where it doesn't go on with what came before it
abbrev pub begun : ℕ → Option Pending
begun b =
    if nat_eq b 32 then Some nothing else (
    if is_letter b then Some (word (b ∷ [])) else (
    if is_digit b then Some (digits (b - 48)) else (
    if is_sign b then Some (sign b) else held (single b))))

-- what a byte makes of what is pending, where it goes on with it
abbrev pub grown : Pending → ℕ → Option Pending
grown (word w) b = if is_word_byte b then Some (word (take kept_bytes (w ++ b ∷ []))) else None
grown (digits n) b = if is_digit b then Some (digits (with_digit n b)) else None
grown (sign c) b = if nat_eq b 61 then Some (whole (with_equal c)) else None
grown nothing b = None
grown (whole token) b = None

-- some tokens, and more after them
abbrev pub and_after : Option (List Token) → Option (List Token) → Option (List Token)
and_after None us = None
and_after (Some ts) None = None
and_after (Some ts) (Some us) = Some (ts ++ us)

-- the tokens of what is pending and of the bytes that follow
abbrev pub tokens_from : Pending → List ℕ → Option (List Token)
tokens_from p [] = flushed p
tokens_from p (b ∷ bs) =
    elim (grown p b) [
      | Some q ↦ tokens_from q bs
      | None ↦ elim (begun b) [ None ↦ None | Some q ↦ and_after (flushed p) (tokens_from q bs) ]
    ]

-- the tokens of a line, or none where it has a character that stands in no token
abbrev pub tokens_of : List ℕ → Option (List Token)
tokens_of line = tokens_from nothing line
