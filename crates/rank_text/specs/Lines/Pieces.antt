-- A text's pieces between separators: its lines, cut at each LF (10), and a line's words, between spaces (32)
-- (docs/FORMATS.md, "Program texts", "Scripts", "Events of a world").
use Rattle.std.specs.Prelude.{ℕ, List, [], ◌∷◌, nat_eq, Option, Some, None, if◌then◌else◌}
use Rattle.std.specs.Borrow.{Bor}

-- a byte in front of the first piece
abbrev pub onto_first : ℕ → List (List ℕ) → List (List ℕ)
onto_first b [] = (b ∷ []) ∷ []
onto_first b (p ∷ ps) = (b ∷ p) ∷ ps

-- a text is cut at each separator; what follows the last one is a piece where it isn't empty
abbrev pub pieces_of : ℕ → List ℕ → List (List ℕ)
pieces_of separator [] = []
pieces_of separator (b ∷ bs) =
    if nat_eq b separator then [] ∷ pieces_of separator bs else onto_first b (pieces_of separator bs)

-- the pieces that aren't empty
abbrev pub some_of : List (List ℕ) → List (List ℕ)
some_of [] = []
some_of ([] ∷ ps) = some_of ps
some_of ((b ∷ bs) ∷ ps) = (b ∷ bs) ∷ some_of ps

-- the words of a line, which one space or more separate
abbrev pub words_of : List ℕ → List (List ℕ)
words_of line = some_of (pieces_of 32 line)

-- the bytes before the first separator, or all
abbrev pub front : ℕ → List ℕ → List ℕ
front separator [] = []
front separator (b ∷ bs) = if nat_eq b separator then [] else b ∷ front separator bs

-- the bytes behind the first separator, or none
abbrev pub behind : ℕ → List ℕ → List ℕ
behind separator [] = []
behind separator (b ∷ bs) = if nat_eq b separator then bs else behind separator bs

-- the bytes from the first on that isn't the separator
abbrev pub without_front : ℕ → List ℕ → List ℕ
without_front separator [] = []
without_front separator (b ∷ bs) = if nat_eq b separator then without_front separator bs else b ∷ bs

-- the pieces of which a first one was cut off
abbrev pub cut_of : ℕ → Option (Bor (List ℕ) × Bor (List ℕ)) → List (List ℕ)
cut_of separator None = []
cut_of separator (Some c) = c.0.now ∷ pieces_of separator c.1.now

-- the words of which a first one was cut off
abbrev pub word_cut_of : Option (Bor (List ℕ) × Bor (List ℕ)) → List (List ℕ)
word_cut_of None = []
word_cut_of (Some c) = c.0.now ∷ words_of c.1.now
