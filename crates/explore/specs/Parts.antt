-- States that are kept in parts: each distinct part once, and of each state the places of its parts
-- (collapse compression: Holzmann 1997).
use Rattle.std.specs.Prelude.{◌≡◌, ℕ, ◌<◌, List, [], ◌∷◌, ◌++◌, length, map, slice_index_or}
use Rattle.crash_free.specs.Standing.{Rows, no_rows, behind}

-- the parts at these places, one behind another
abbrev pub joined : List Rows → List ℕ → Rows
joined parts [] = no_rows
joined parts (i ∷ is) = behind (slice_index_or parts i no_rows) (joined parts is)

-- so of each of these states
abbrev pub all_joined : List Rows → List (List ℕ) → List Rows
all_joined parts states = map (joined parts) states

-- each of the places is below this number
abbrev pub AreBelow : ℕ → List ℕ → Type 0
AreBelow n [] = Unit {0}
AreBelow n (i ∷ is) = (i < n) × AreBelow n is

-- so are the places of each of these states
abbrev pub AllAreBelow : ℕ → List (List ℕ) → Type 0
AllAreBelow n [] = Unit {0}
AllAreBelow n (is ∷ states) = AreBelow n is × AllAreBelow n states

-- the second parts are the first, with more behind them
abbrev pub KeepsParts : List Rows → List Rows → Type 0
KeepsParts old new = (more : List Rows) × (new ≡ old ++ more)

-- at each of these places there is a part, and together they are these rows
pub record AreParts (parts : List Rows) (places : List ℕ) (rows : Rows) : Type 0 where
  pub below : AreBelow (length parts) places
  pub whole : joined parts places ≡ rows
