-- A line of a text, before its tokens are looked at (the language's own manual, docs/LANGUAGE.md, "Lines, words and names").
use Rattle.std.specs.Prelude.{ℕ, List, [], ◌∷◌, Bool, true, false, ◌&&◌, nat_eq, Option, Some, None, if◌then◌else◌}
use Rattle.rank_text.specs.Lines.Pieces.{without_front}
use Rattle.rank_text.specs.declared.grammar.token.Token.{Token}
use Rattle.rank_text.specs.declared.grammar.token.Token.TheVariants as t
use Rattle.rank_text.specs.Grammar.Tokens.{is_word_byte, is_between, found_in, reserved}

-- nothing is left, or what is left begins with `#`
abbrev pub begins_comment : List ℕ → Bool
begins_comment [] = true
begins_comment (b ∷ bs) = nat_eq b 35

-- the line has only spaces, or its first character after spaces is `#`
abbrev pub is_skipped : List ℕ → Bool
is_skipped line = begins_comment (without_front 32 line)

-- each byte of the line is 0x20 to 0x7E
abbrev pub is_text : List ℕ → Bool
is_text [] = true
is_text (b ∷ bs) = is_between 32 126 b && is_text bs

-- the letters, digits and `_` in front
abbrev pub front_word : List ℕ → List ℕ
front_word [] = []
front_word (b ∷ bs) = if is_word_byte b then b ∷ front_word bs else []

-- the token is a statement word
abbrev pub is_keyword : Option Token → Bool
is_keyword (Some (t.Keyword k)) = true
is_keyword None = false
is_keyword (Some (t.Reduction r)) = false
is_keyword (Some (t.Name x)) = false
is_keyword (Some (t.Number n)) = false
is_keyword (Some (t.Reading r)) = false
is_keyword (Some (t.Operator o)) = false
is_keyword (Some t.OpenParenthesis) = false
is_keyword (Some t.CloseParenthesis) = false
is_keyword (Some t.OpenBracket) = false
is_keyword (Some t.CloseBracket) = false
is_keyword (Some t.Comma) = false
is_keyword (Some t.Assign) = false
is_keyword (Some t.Any) = false

-- the first token of the line is a statement word
abbrev pub is_statement : List ℕ → Bool
is_statement line = is_keyword (found_in reserved (front_word (without_front 32 line)))
