-- The last multiple of a number that is below another one.
use Rattle.std.proofs.Common.{◌≡◌, ℕ, ◌+◌, ◌-◌, ◌*◌, ◌/◌, ◌%◌, ◌<◌, ◌≤◌, ap, ◌∙◌, arith}
use Rattle.std.proofs.Math.Nat.{mod-add-div', mul-mod_left}
use Rattle.std.proofs.lemmas.Nat.{mod_below}
use Rattle.run_shown.specs.Trace.Due.{IsLastMultiple}

-- without its remainder a number is a multiple
without_rest : (n every : ℕ) → (n - n % every) % every ≡ 0
without_rest n every =
    let same : n - n % every ≡ n / every * every = omega (arith, mod-add-div' n every) in
    ap (λ k. k % every) same ∙ mul-mod_left (n / every) every

-- and the last one below the number after it
pub last_multiple : (every clock before due : ℕ) → 0 < every → before ≡ clock - 1 → due ≡ before - before % every → IsLastMultiple every clock due
last_multiple every clock before due some is_before is_due = record {
  multiple = ap (λ k. k % every) is_due ∙ without_rest before every;
  below = omega (arith, is_before, is_due);
  last = omega (arith, is_before, is_due, mod_below before every some);
}
