-- What of a rank outlives a crash (stable storage: Elnozahy, Alvisi, Wang and Johnson 2002, section
-- 2).
use Rattle.std.specs.Prelude.{ℕ}

-- the desk at the logger, the shelf with the image, and which of how many ranks it is
pub record Stored (S D : Type 0) : Type 0 where
  pub desk : D
  pub shelf : S
  pub rank : ℕ
  pub size : ℕ
