-- The numbers that words spell (docs/FORMATS.md, "Scripts", "Events of a world").
use Rattle.std.specs.Prelude.{ℕ, ◌+◌, ◌-◌, ◌*◌, min, List, [], ◌∷◌, ◌&&◌, nat_le, Option, Some, None, if◌then◌else◌}

-- the value of a decimal digit
abbrev pub digit_of : ℕ → Option ℕ
digit_of b = if nat_le 48 b && nat_le b 57 then Some (b - 48) else None

-- the value of decimal digits behind others that have this value, if all are digits
abbrev pub value_behind : ℕ → List ℕ → Option ℕ
value_behind n [] = Some n
value_behind n (b ∷ bs) = elim (digit_of b) [ None ↦ None | Some d ↦ value_behind (n * 10 + d) bs ]

-- the number that a word spells: it is one decimal digit or more, leading zeros among them
abbrev pub decimal_of : List ℕ → Option ℕ
decimal_of [] = None
decimal_of (b ∷ bs) = value_behind 0 (b ∷ bs)

-- a number as 32 bits keep it: the greatest that they hold stands for each greater one
abbrev pub kept : ℕ → ℕ
kept n = min n 4294967295

-- a number that may be absent, kept so
abbrev pub kept_of : Option ℕ → Option ℕ
kept_of None = None
kept_of (Some n) = Some (kept n)

-- a number as 64 bits keep it, likewise
abbrev pub wide : ℕ → ℕ
wide n = min n 18446744073709551615

-- a number that may be absent, kept so
abbrev pub wide_of : Option ℕ → Option ℕ
wide_of None = None
wide_of (Some n) = Some (wide n)
