-- A run more is noted.
use Rattle.std.proofs.Common.{◌≡◌, ℕ, Bool, List, [], ◌∷◌, ◌++◌, get_or, slice_set, sym, subst, ◌∙◌}
use Rattle.std.proofs.lemmas.Option.{get_or_from_slice_get}
use Rattle.audit.specs.FinalRuns.Maximal.{RankOutcome}
use Rattle.outcomes.specs.Soak.Histogram.{AreOthers, BarValue, HasAt, Notes, again, first, first_bar, with_one}

-- in the bar of its outcome
pub noted_again : (old : List BarValue) (o : List RankOutcome) (h : Bool) (at : ℕ) (it : BarValue) → HasAt old o at
    → it ≡ get_or old at it → Notes old o h (slice_set old at (with_one it h))
noted_again old o h at it there read =
    let same : there.0 ≡ it = sym (read ∙ get_or_from_slice_get old at there.0 it there.1) in
    subst (λ b. Notes old o h (slice_set old at (with_one b h))) same (again at there.0 there.1 there.2)

-- in a new bar
pub noted_first : (old : List BarValue) (o : List RankOutcome) (h : Bool) (new : BarValue) → AreOthers old o → new ≡ first_bar o h
    → Notes old o h (old ++ new ∷ [])
noted_first old o h new others is = subst (λ b. Notes old o h (old ++ b ∷ [])) (sym is) (first others)
