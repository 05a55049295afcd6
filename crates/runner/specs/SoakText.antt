-- The text of what the runs of a soak came to (docs/FORMATS.md, "Standard output of `soak`").
use Rattle.std.specs.Prelude.{◌≡◌, ℕ, ◌+◌, length, List, [], ◌∷◌, ◌++◌, true, false, Some, codes, slice_get, string_bytes}
use Rattle.std.specs.Fmt.{decimal}
use Rattle.runner.specs.OutcomesText.{outcome_text}
use Rattle.runner.specs.declared.soaked.Soaked.{Soaked}
use Rattle.audit.specs.FinalRuns.Maximal.{RankOutcome}
use Rattle.explore.specs.Explored.{ExploredValue}
use Rattle.outcomes.specs.Soak.Histogram.{AreOthers, BarValue, HasAt}

-- an outcome of this number, how many runs had it, and in how many of them a rank crashed
abbrev pub bar_text : ℕ → BarValue → List ℕ
bar_text number bar = outcome_text number bar.outcome ++ codes "runs " ++ decimal bar.runs ++ codes ", crashed " ++ decimal bar.crashed ++ codes "\n\n"

-- the outcomes from this number on
abbrev pub bars_text : ℕ → List BarValue → List ℕ
bars_text number [] = []
bars_text number (bar ∷ bars) = bar_text number bar ++ bars_text (number + 1) bars

-- the last line: how many runs were made, what came to pass in them, and how many outcomes they had
abbrev pub count_text : Soaked → ℕ → List ℕ
count_text soaked runs = codes "runs " ++ decimal runs ++ codes ", crashes " ++ decimal soaked.crashes
    ++ codes ", images " ++ decimal soaked.images ++ codes ", outcomes " ++ decimal (length soaked.histogram) ++ codes "\n"

-- that the run of this number has no report
abbrev pub no_report_text : ℕ → List ℕ
no_report_text number = codes "run " ++ decimal number ++ codes " has no report: "

-- the same, why, and its script
abbrev pub failed_text : ℕ → List ℕ → List ℕ → List ℕ
failed_text number why script = no_report_text number ++ why ++ codes "\n" ++ script

-- that no run had the outcome of this number of a search
abbrev pub unmet_text : ℕ → List ℕ
unmet_text number = codes "# outcome " ++ decimal number ++ codes " of explore wasn't met\n"

-- Behind what stands before comes a line if no bar is of the outcome of this number, and else
-- nothing.
pub data IsUnmetLine (bars : List BarValue) (number : ℕ) (outcome : List RankOutcome) (before after : List ℕ) : Type 0 where
  met : (at : ℕ) → HasAt bars outcome at → after ≡ before → IsUnmetLine bars number outcome before after
  unmet : AreOthers bars outcome → after ≡ before ++ unmet_text number → IsUnmetLine bars number outcome before after

-- These lines name which of the first so many outcomes of a search no run had, by their numbers
-- from 1: those without a bar, in their order, and no other.
pub data AreUnmet (bars : List BarValue) (outcomes : List (List RankOutcome)) : ℕ → List ℕ → Type 0 where
  of_none : AreUnmet bars outcomes 0 []
  of_one : {count : ℕ} {before after : List ℕ} (outcome : List RankOutcome) → AreUnmet bars outcomes count before
      → slice_get outcomes count ≡ Some outcome → IsUnmetLine bars (count + 1) outcome before after → AreUnmet bars outcomes (count + 1) after

-- that a search is complete, which found so many outcomes
abbrev pub complete_text : ℕ → List ℕ
complete_text outcomes = codes "# explore is complete: outcomes " ++ decimal outcomes ++ codes "\n"

-- What is said of a search beside the runs: how many outcomes it found and which no run had, if it
-- is complete, and else that there may be others.
pub record IsSearchText (found : ExploredValue) (bars : List BarValue) (text : List ℕ) : Type 0 where
  pub complete : found.complete ≡ true → (lines : List ℕ) × AreUnmet bars found.outcomes (length found.outcomes) lines
      × (text ≡ complete_text (length found.outcomes) ++ lines)
  pub stopped : found.complete ≡ false → text ≡ codes "# explore isn't complete: others may be possible\n"

-- What is printed: the outcomes, the runs without a report, what is said of the search, and the
-- last line.
pub record IsSoakText (soaked : Soaked) (found : ExploredValue) (runs : ℕ) (text : List ℕ) : Type 0 where
  pub search : List ℕ
  pub told : IsSearchText found soaked.histogram search
  pub whole : text ≡ bars_text 1 soaked.histogram ++ string_bytes soaked.failed ++ search ++ count_text soaked runs
