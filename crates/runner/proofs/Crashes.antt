-- Why a complete search with one outcome says what is printed.
use Rattle.std.proofs.Common.{◌≡◌, ℕ, zero, suc, List, [], ◌∷◌, subst, sym}
use Rattle.matching.specs.declared.line.Line.{Line}
use Rattle.audit.specs.FinalRuns.Final.{seen_of}
use Rattle.audit.specs.FinalRuns.Maximal.{RankOutcome}
use Rattle.explore.specs.Outcomes.{IsAmong}
use Rattle.rank_language.specs.Program.{ProgramValue}
use Rattle.run_events.specs.Masking.{ArePrintedIn, PrintsPartOf}
use Rattle.runner.specs.Crashes.{AreMasked, PrintsOnly}

-- there is one among one
lone : {A : Type 0} (x y : A) → IsAmong (x ∷ []) y → x ≡ y
lone x y (zero, there) = cc
lone x y (suc i, there) = absurd cc

-- what is part of one of these is part of the only one
part_of_it : (n : ℕ) (outcome : List RankOutcome) (lines : List Line) → ArePrintedIn (outcome ∷ []) n lines → PrintsPartOf outcome lines
part_of_it n outcome lines printed =
    subst (λ (o : List RankOutcome). PrintsPartOf o lines) (sym (lone outcome printed.outcome printed.found)) printed.part

-- where there is one outcome, it is all that is printed
pub prints_only : (program : ProgramValue) (n : ℕ) (outcomes : List (List RankOutcome)) (outcome : List RankOutcome)
    → AreMasked program n outcomes → outcomes ≡ outcome ∷ [] → PrintsOnly program n outcome
prints_only program n outcomes outcome masked is = record {
  reports = λ o final. part_of_it n outcome o.lines (it o final).printed;
  whole = λ o final none. sym (lone outcome (seen_of o) ((it o final).whole none));
}
  where
    it : AreMasked program n (outcome ∷ [])
    it = subst (AreMasked program n) is masked
