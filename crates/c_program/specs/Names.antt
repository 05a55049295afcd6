-- The names of a rank program in C (ISO/IEC 9899:1999, "Programming languages: C", section 6.4.1: keywords).
use Rattle.std.specs.Prelude.{ℕ, nat_eq, Bool, false, ◌||◌, List, [], ◌∷◌, ◌++◌, codes, map, if◌then◌else◌}
use Rattle.rank_text.specs.Checker.Scope.{is_name_in}
use Rattle.c_program.specs.declared.names.TheConstants.{C_WORDS}

-- the words that a C compiler may take for itself
abbrev pub words_of_c : List (List ℕ)
words_of_c = map (λ w. w.now) C_WORDS

-- the name is one of them, or begins with `_`: such words are reserved in C
abbrev pub is_reserved : List ℕ → Bool
is_reserved [] = false
is_reserved (b ∷ bs) = nat_eq b 95 || is_name_in words_of_c (b ∷ bs)

-- what stands behind a name in C: a name that C may have gets an ending by which it is longer than any name of a
-- rank program
unfoldable pub ending_of : List ℕ → List ℕ
ending_of x = if is_reserved x then codes "_of_this_program" else []

-- a name in C
abbrev pub c_name : List ℕ → List ℕ
c_name x = x ++ ending_of x
