-- The lines that tell nothing (docs/FORMATS.md, "Scripts", "Events of a world").
use Rattle.std.specs.Prelude.{ℕ, List, [], ◌∷◌, Bool, true, false, ◌||◌, nat_eq}
use Rattle.rank_text.specs.Lines.Pieces.{words_of}

-- the line begins with `#`
abbrev pub is_comment : List ℕ → Bool
is_comment [] = false
is_comment (b ∷ bs) = nat_eq b 35

-- there is none
abbrev pub is_none : List (List ℕ) → Bool
is_none [] = true
is_none (w ∷ ws) = false

-- the line has only spaces, or is a comment
abbrev pub is_skipped : List ℕ → Bool
is_skipped line = is_comment line || is_none (words_of line)
