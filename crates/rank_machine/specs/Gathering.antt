-- Values that are gathered in room that was made before.
use Rattle.std.specs.Prelude.{ℕ, ℤ, List}

-- for how many there is room, and the values in order
pub record GatheredValue : Type 0 where
  pub room : ℕ
  pub values : List ℤ
