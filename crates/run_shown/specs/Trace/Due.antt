-- Which image of a rank was the last before an act, if it takes one after each so many acts.
use Rattle.std.specs.Prelude.{◌≡◌, ℕ, ◌+◌, ◌-◌, ◌%◌, ◌≤◌, Option, Some, None}
use Rattle.std.specs.NonZero.{non_zero_u32_get}
use Rattle.std.specs.declared.num.NonZeroU32.{NonZeroU32}

-- the greatest multiple of that number which is below this clock
pub record IsLastMultiple (every clock due : ℕ) : Type 0 where
  pub multiple : due % every ≡ 0
  pub below : due ≤ clock - 1
  pub last : clock ≤ due + every

-- The last image before this act was taken at this clock, 0 if there was none.
abbrev pub IsLastDue : Option NonZeroU32 → ℕ → ℕ → Type 0
IsLastDue None clock due = due ≡ 0
IsLastDue (Some every) clock due = IsLastMultiple (non_zero_u32_get every) clock due
