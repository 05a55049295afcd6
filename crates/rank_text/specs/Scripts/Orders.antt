-- What the lines of a script without fault are.
use Rattle.std.specs.Prelude.{ℕ, ◌<◌, ◌≤◌}
use Rattle.limits.specs.Limits.{greatest_clock}
use Rattle.rank_text.specs.declared.script.line.ScriptLine.{ScriptLine}

-- A line is an order to one of so many ranks, at a clock that a rank can have.
pub record IsOrder (ranks : ℕ) (line : ScriptLine) : Type 0 where
  pub rank : line.rank < ranks
  pub past : 1 ≤ line.clock
  pub possible : line.clock ≤ greatest_clock
