use Rattle.std.proofs.Common.{◌≡◌, ℕ, ◌<◌, true}
use Rattle.std.specs.Prelude.{slice_get}
use Rattle.explore.specs.Shown.{is_try_in}
use Rattle.explore.proofs.tries.may_miss.Given as goal

-- none so far is such a probe
abbrev pub invariant-loop-position : goal.invariant-loop-position
invariant-loop-position l = record {
  none : (p : ℕ) → p < l.position → is_try_in (slice_get l.program.statements p) ≡ true → ⊥;
}
