-- The first piece of a text, and the first word of a line, are cut off from the front.
use Rattle.std.specs.Prelude.{◌≡◌, ℕ, ◌<◌, List, [], ◌∷◌, length, false, nat_eq}
use Rattle.std.proofs.Common.{refl, arith}
use Rattle.std.proofs.lemmas.Bool.Decides.{nat_tests}
use Rattle.rank_text.specs.Lines.Pieces.{pieces_of, words_of, front, behind, without_front}

-- a text that isn't empty is its first piece and those of what is behind it
pub first_piece : (s : ℕ) (text : List ℕ) → 0 < length text → front s text ∷ pieces_of s (behind s text) ≡ pieces_of s text
first_piece s [] h = absurd (omega arith)
first_piece s (b ∷ []) h = grind (arith, nat_tests)
first_piece s (b ∷ c ∷ bs) h = grind (arith, nat_tests, first_piece s (c ∷ bs) (omega arith))

-- bytes that begin with no space begin with a word
begins : (b : ℕ) (bs : List ℕ) → nat_eq b 32 ≡ false → front 32 (b ∷ bs) ∷ words_of (behind 32 (b ∷ bs)) ≡ words_of (b ∷ bs)
begins b bs q = grind (arith, nat_tests, first_piece 32 (b ∷ bs) (omega arith))

-- a line with more than spaces is its first word and those of what is behind it
pub first_word : (line : List ℕ) → 0 < length (without_front 32 line)
    → front 32 (without_front 32 line) ∷ words_of (behind 32 (without_front 32 line)) ≡ words_of line
first_word [] h = absurd (omega arith)
first_word (b ∷ bs) h = grind (arith, nat_tests, first_word bs, begins b bs)

-- a line of spaces has no word
pub no_word : (line : List ℕ) → length (without_front 32 line) ≡ 0 → words_of line ≡ []
no_word [] h = refl
no_word (b ∷ bs) h = grind (arith, nat_tests, no_word bs)
