-- How ranks and lines are named in a sentence.
use Rattle.std.specs.Prelude.{◌==◌, ℕ, if◌then◌else◌, length, List, [], ◌∷◌, ◌++◌, codes}
use Rattle.std.specs.Fmt.{decimal}

-- what stands between a number and these many more
abbrev pub between : ℕ → List ℕ
between left = if left == 0 then [] else (if left == 1 then codes " and " else codes ", ")

-- an enumeration, as `0, 1 and 3`
abbrev pub enumeration : List ℕ → List ℕ
enumeration [] = []
enumeration (number ∷ numbers) = decimal number ++ between (length numbers) ++ enumeration numbers

-- these ranks, as `rank 1` or `ranks 0 and 1`
abbrev pub named_ranks : List ℕ → List ℕ
named_ranks ranks = (if length ranks == 1 then codes "rank " else codes "ranks ") ++ enumeration ranks

-- these lines, as `line 3` or `lines 3 and 4`
abbrev pub named_lines : List ℕ → List ℕ
named_lines lines = (if length lines == 1 then codes "line " else codes "lines ") ++ enumeration lines
