-- Clocks, ranks and printed values as words spell them (docs/FORMATS.md, "Outcomes").
use Rattle.std.specs.Prelude.{ℕ, ℤ, pos, neg_ℤ, List, [], ◌∷◌, nat_eq, nat_le, Option, Some, None, if◌then◌else◌}
use Rattle.limits.specs.Limits.{is_clock}
use Rattle.rank_text.specs.Lines.Numbers.{decimal_of, kept_of, wide_of}

-- the number of a rank that a word spells, as 32 bits keep it: a greater number is no rank's
abbrev pub rank_in : List ℕ → Option ℕ
rank_in word = kept_of (decimal_of word)

-- a number, if a rank can have it as its clock
abbrev pub clock_with : Option ℕ → Option ℕ
clock_with None = None
clock_with (Some c) = if is_clock c then Some c else None

-- the clock that a word spells, if a rank can have it
abbrev pub clock_in : List ℕ → Option ℕ
clock_in word = clock_with (kept_of (decimal_of word))

-- the number that a word spells, as 64 bits keep it
abbrev pub wide_in : List ℕ → Option ℕ
wide_in word = wide_of (decimal_of word)

-- the number as a value of 64 bits with a sign, if it is one
abbrev pub positive : ℕ → Option ℤ
positive n = if nat_le n 9223372036854775807 then Some (pos n) else None

-- the number below zero as such a value, if it is one
abbrev pub negative : ℕ → Option ℤ
negative n = if nat_le n 9223372036854775808 then Some (neg_ℤ (pos n)) else None

-- the value that a word spells: decimal digits, with `-` before them if it is below zero
abbrev pub value_in : List ℕ → Option ℤ
value_in [] = None
value_in (b ∷ bs) =
    if nat_eq b 45 then elim (wide_in bs) [ None ↦ None | Some n ↦ negative n ]
    else elim (wide_in (b ∷ bs)) [ None ↦ None | Some n ↦ positive n ]
