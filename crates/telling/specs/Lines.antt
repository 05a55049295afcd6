-- On which lines of its text the statements stand that are made of those of a text.
use Rattle.std.specs.Prelude.{ℕ, zero, suc, List, [], ◌∷◌, ◌++◌, length}
use Rattle.rank_text.specs.Grammar.Forms.{Form}

-- a line, so many times
abbrev pub repeated : ℕ → ℕ → List ℕ
repeated n zero = []
repeated n (suc times) = n ∷ repeated n times

-- what is made of a statement stands on its line
abbrev pub lines_each : (Form → List Form) → List ℕ → List Form → List ℕ
lines_each made [] fs = []
lines_each made (n ∷ ns) [] = []
lines_each made (n ∷ ns) (f ∷ fs) = repeated n (length (made f)) ++ lines_each made ns fs
