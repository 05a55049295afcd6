-- Numbers in columns, and what stands between those of a list (docs/FORMATS.md, "Standard output of
-- `trace`").
use Rattle.std.specs.Prelude.{ℕ, ◌+◌, ◌-◌, ◌==◌, List, [], ◌++◌, length, replicate, codes, if◌then◌else◌}
use Rattle.std.specs.Fmt.{decimal}

-- how many digits a number has
abbrev pub digit_count : ℕ → ℕ
digit_count n = length (decimal n)

-- so many spaces
abbrev pub spaces : ℕ → List ℕ
spaces count = replicate count 32

-- a number with spaces in front of it up to this width
abbrev pub right : ℕ → ℕ → List ℕ
right width n = spaces (width - digit_count n) ++ decimal n

-- what stands in front of the item at this index of so many
abbrev pub between : ℕ → ℕ → List ℕ
between index count = if index == 0 then [] else (if index + 1 == count then codes " and " else codes ", ")

-- the line above the columns, if that of the clocks has this width
abbrev pub head_text : ℕ → List ℕ
head_text width = codes "rank " ++ spaces (width - 5) ++ codes "clock  line  act\n"
