use Rattle.std.proofs.Common.{rules, ◌≡◌, ℕ, List, subst}
use Rattle.audit.specs.FinalRuns.Maximal.{RankOutcome}
use Rattle.outcomes.specs.Soak.Histogram.{HasAt}
use Rattle.runner.proofs.Soaks.{met_line}
use Rattle.runner.proofs.soaked.text.print_if_unmet.Goals as goal

-- a run had the outcome, so nothing is written
pub returns-then-has : goal.returns-then-has
returns-then-has c =
    let same : c.as_slice.result.now ≡ c.args.outcome.now.ranks = search rules in
    met_line _ _ _ _
    (subst (λ (o : List RankOutcome). (at : ℕ) × HasAt c.args.histogram.now o at) same (c.has.ensures.yes c.if-has.true))
