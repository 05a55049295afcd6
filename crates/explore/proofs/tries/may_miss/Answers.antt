use Rattle.std.proofs.Common.{◌≡◌, ℕ, ◌<◌, ◌≤◌, true, List, length, slice_get, sym, ap, ◌∙◌, arith, ◌⊎◌, inl, inr}
use Rattle.std.proofs.lemmas.Bool.{cases_lt}
use Rattle.std.proofs.lemmas.Option.{slice_get_past}
use Rattle.rank_language.specs.Block.{Line}
use Rattle.explore.specs.Shown.{HasTryProbe, is_try_in}
use Rattle.explore.proofs.Untried.{never_missed}
use Rattle.explore.proofs.tries.may_miss.Goals as goal

-- none of all lines is one
none_at_all : (lines : List Line) (k : ℕ) → length lines ≤ k → ((p : ℕ) → p < k → is_try_in (slice_get lines p) ≡ true → ⊥) → HasTryProbe lines → ⊥
none_at_all lines k all none it = by_place (cases_lt it.0 k)
  where
    by_place : (it.0 < k) ⊎ (k ≤ it.0) → ⊥
    by_place (inl low) = none it.0 low it.1
    by_place (inr high) = (let past = sym (ap is_try_in (slice_get_past lines it.0 (omega (arith, all, high)))) ∙ it.1 in cc)

pub returns-clause-no : goal.returns-clause-no
returns-clause-no c = λ e.
    never_missed c.args.program.now c.law_lines.ensures
    (none_at_all c.args.program.now.statements c.loop-position.position (omega (arith, c.len-position-end.ensures.count, c.loop-position-test.false))
    c.loop-position.invariant.none)
