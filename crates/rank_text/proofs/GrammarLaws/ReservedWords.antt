-- A word is told from the reserved words by its first 17 bytes, since those are shorter.
use Rattle.std.proofs.Common.{◌≡◌, ℕ, zero, suc, ◌≤◌, ◌&&◌, List, [], ◌∷◌, length, take, Some, None, refl, ap, ◌∙◌, arith}
use Rattle.std.specs.Prelude.{nat_eq, if◌then◌else◌}
use Rattle.std.specs.Str.{bytes_eq}
use Rattle.rank_text.specs.declared.grammar.token.Token.{Token}
use Rattle.rank_text.specs.declared.grammar.token.Token.TheVariants as t
use Rattle.rank_text.specs.Grammar.Tokens.{found_in, control_words, message_words, reading_words, argument_words, reserved, word_or_name}
use Rattle.rank_text.specs.Grammar.Lexes.{word_token}

-- a word equals a shorter one where as much of it does as can tell
same_bytes : (n : ℕ) (w r : List ℕ) → length r ≤ n → bytes_eq (take (suc n) w) r ≡ bytes_eq w r
same_bytes n [] r h = refl
same_bytes n (b ∷ w) [] h = refl
same_bytes zero (b ∷ w) (c ∷ r) h = absurd (omega arith)
same_bytes (suc n) (b ∷ w) (c ∷ r) h = ap (λ z. nat_eq b c && z) (same_bytes n w r (omega arith))

-- each word of a table has at most 16 bytes
abbrev AreShort : List (List ℕ × Token) → Type 0
AreShort [] = Unit {0}
AreShort (r ∷ rs) = (length r.0 ≤ 16) × AreShort rs

-- 17 bytes of a word are found in such a table as the word is
same_found : (rs : List (List ℕ × Token)) (w : List ℕ) → AreShort rs → found_in rs (take 17 w) ≡ found_in rs w
same_found [] w h = refl
same_found (r ∷ rs) w h =
    ap (λ z. if z then Some r.1 else found_in rs (take 17 w)) (same_bytes 16 w r.0 h.0) ∙ ap (λ z. if bytes_eq w r.0 then Some r.1 else z) (same_found rs w h.1)

-- the reserved words are short
reserved_short : AreShort reserved
unfolding control_words message_words reading_words argument_words
reserved_short = search arith

-- a word's token is told by 17 of its bytes
pub same_token : (w : List ℕ) → word_or_name (take 17 w) ≡ word_token w
same_token w = ap (λ o. elim o [ None ↦ t.Name (take 17 w) | Some token ↦ token ]) (same_found reserved w reserved_short)
