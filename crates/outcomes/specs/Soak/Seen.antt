-- What is seen of ranks, one after another.
use Rattle.std.specs.Prelude.{ℕ, ℤ, ◌+◌, List, [], ◌∷◌, map}
use Rattle.audit.specs.Outcome.{lines_of}
use Rattle.audit.specs.declared.outcome.End.{End}
use Rattle.audit.specs.FinalRuns.Maximal.{RankOutcome}
use Rattle.matching.specs.declared.line.Line.{Line}

-- what is seen of this rank, which ended so: the values that it printed, in order, and its end
abbrev pub seen_one : ℕ → List Line → End → RankOutcome
seen_one rank lines ended = record { lines = map (λ (line : ℕ × ℤ). line.1) (lines_of rank lines); end = ended }

-- what is seen of the ranks from this one on
abbrev pub seen_on : ℕ → List Line → List End → List RankOutcome
seen_on rank lines [] = []
seen_on rank lines (ended ∷ ends) = seen_one rank lines ended ∷ seen_on (rank + 1) lines ends
