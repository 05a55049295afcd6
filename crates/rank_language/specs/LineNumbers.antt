-- The lines that aren't skipped, counted.
use Rattle.std.specs.Prelude.{ℕ, ◌+◌, List, [], ◌∷◌, Option, Some, None, if◌then◌else◌}
use Rattle.std.specs.Borrow.{Bor}
use Rattle.rank_text.specs.Checker.Lines.{is_skipped}

-- the numbers of the lines that aren't skipped, where the first has this number
abbrev pub numbers_from : ℕ → List (List ℕ) → List ℕ
numbers_from n [] = []
numbers_from n (l ∷ ls) = if is_skipped l then numbers_from (n + 1) ls else n ∷ numbers_from (n + 1) ls

-- a line of the code, without where it lies
abbrev pub line_seen : Option (Bor (List ℕ)) → Option (List ℕ)
line_seen None = None
line_seen (Some line) = Some line.now
