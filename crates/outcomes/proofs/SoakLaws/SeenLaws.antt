-- What is seen of ranks, one after another, is what is seen of an outcome.
use Rattle.std.proofs.Common.{◌≡◌, ℕ, ◌+◌, ◌<◌, List, [], ◌∷◌, ◌++◌, length, refl, sym, ap, ◌∙◌, add-one, append-nil, arith}
use Rattle.audit.specs.declared.outcome.End.{End}
use Rattle.audit.specs.FinalRuns.Final.{seen_from}
use Rattle.audit.specs.FinalRuns.Maximal.{RankOutcome}
use Rattle.matching.specs.declared.line.Line.{Line}
use Rattle.outcomes.specs.Soak.Seen.{seen_one, seen_on}

-- from any rank on
seen_same : (rank : ℕ) (lines : List Line) (ends : List End) → seen_on rank lines ends ≡ seen_from rank lines ends
seen_same rank lines [] = refl
seen_same rank lines (ended ∷ ends) =
    ap (λ seen. seen_one rank lines ended ∷ seen) (seen_same (rank + 1) lines ends ∙ ap (λ r. seen_from r lines ends) (add-one rank))

-- once none is left
pub all_seen : (seen : List RankOutcome) (rank : ℕ) (lines : List Line) (rest ends : List End) → length rest < 1
    → seen ++ seen_on rank lines rest ≡ seen_on 0 lines ends → seen ≡ seen_from 0 lines ends
all_seen seen rank lines [] ends none whole = sym (append-nil seen) ∙ whole ∙ seen_same 0 lines ends
all_seen seen rank lines (ended ∷ rest) ends none whole = absurd (omega (arith, none))
