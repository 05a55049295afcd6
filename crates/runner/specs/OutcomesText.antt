-- The text of all outcomes of a program (docs/FORMATS.md, "Standard output of `explore`").
use Rattle.std.specs.Prelude.{◌≡◌, ◌≢◌, ℕ, ℤ, ◌+◌, Bool, true, length, List, [], ◌∷◌, ◌++◌, Option, Some, slice_get, slice_index_or, codes}
use Rattle.std.specs.Fmt.{decimal}
use Rattle.world_model.specs.EventsText.Output.{line_text}
use Rattle.explore.specs.declared.moves.Noted.{Noted}
use Rattle.explore.specs.Cycles.{MayGoOnForEver}
use Rattle.explore.specs.Explored.{ExploredValue}
use Rattle.explore.specs.Shown.{AreMarked}
use Rattle.audit.specs.FinalRuns.Maximal.{RankOutcome}
use Rattle.rank_language.specs.Program.{ProgramValue}
use Rattle.runner.specs.LeftText.{listed_text, shorts_text}
use Rattle.runner.specs.Meanings.{meaning_text}
use Rattle.runner.specs.Modes.{mode_of}
use Rattle.runner.specs.Partings.{ArePartings, choices_text}
use Rattle.runner.specs.Safety.{safety_behind}
use Rattle.runner.specs.SearchObject.{IsSearchObject}
use Rattle.runner.specs.SentLines.{AreLined}
use Rattle.runner.specs.ReportText.{end_text}
use Rattle.runner.specs.declared.explored.lined.LinedLeftover.{LinedLeftover}
use Rattle.runner.specs.declared.explored.parting.Parted.{Parted}
use Rattle.runner.specs.declared.explored.safety.Safety.{Safety}
use Rattle.run_events.specs.Halting.{AllHalt}
use Rattle.explore.specs.declared.send_mode.SendMode.{SendMode}

-- the values that a rank printed, a line each
abbrev pub values_text : ℕ → List ℤ → List ℕ
values_text rank [] = []
values_text rank (value ∷ values) = line_text rank value ++ values_text rank values

-- the lines of the ranks from this one on
abbrev pub lines_text : ℕ → List RankOutcome → List ℕ
lines_text rank [] = []
lines_text rank (seen ∷ others) = values_text rank seen.lines ++ lines_text (rank + 1) others

-- how the ranks from this one on ended, a line each
abbrev pub endings_text : ℕ → List RankOutcome → List ℕ
endings_text rank [] = []
endings_text rank (seen ∷ others) = end_text rank seen.end ++ endings_text (rank + 1) others

-- the outcome of this number: the lines of each rank, rank by rank, and how each rank ended
abbrev pub outcome_text : ℕ → List RankOutcome → List ℕ
outcome_text number outcome = codes "outcome " ++ decimal number ++ codes "\n" ++ lines_text 0 outcome ++ endings_text 0 outcome

-- an outcome of this number, with the lines that say where runs part that lead there, those on what
-- was never received in runs that have it, and an empty line
unfoldable pub one_text : ℕ → List RankOutcome → List ℕ → List Parted → List (List LinedLeftover) → List ℕ
one_text number outcome lines parted listed = outcome_text number outcome ++ choices_text lines parted ++ listed_text (codes "# ") listed ++ codes "\n"

-- Of these outcomes, which have these choices and of which this is listed as never received, the first
-- so many are written, one after another, each with its number, from 1, with the places where its
-- choices part from those of outcomes before it, and with what is listed of it. The statement at position K of the program stands on
-- line K of these.
pub data AreWritten (outcomes : List (List RankOutcome)) (choices : List (List Noted)) (left : List (List (List LinedLeftover))) (lines : List ℕ)
    : ℕ → List ℕ → Type 0 where
  none : AreWritten outcomes choices left lines 0 []
  more : {count : ℕ} {text : List ℕ} (outcome : List RankOutcome) (parted : List Parted)
      → AreWritten outcomes choices left lines count text → slice_get outcomes count ≡ Some outcome → ArePartings choices count parted
      → AreWritten outcomes choices left lines (count + 1)
      (text ++ one_text (count + 1) outcome lines parted (slice_index_or left count []))

-- the search was of synchronous runs, it is complete, and each rank halts in each outcome
pub record IsSafe (synchronous : Bool) (found : ExploredValue) : Type 0 where
  pub asked : synchronous ≡ true
  pub complete : found.complete ≡ true
  pub halts : AllHalt found.outcomes

-- the line that says so, if it is so
pub data IsSafeText (synchronous : Bool) (found : ExploredValue) (text : List ℕ) : Type 0 where
  safe : IsSafe synchronous found → text ≡ codes "# safe: no send needs a buffer\n" → IsSafeText synchronous found text
  not_safe : (IsSafe synchronous found → ⊥) → text ≡ [] → IsSafeText synchronous found text

-- What is printed of what a search found, of synchronous runs or of others, with what was never
-- received and the marks of its outcomes, which looked at no more than so many runs, of a program whose
-- statements stand on these lines: each outcome, whether the program is safe, what that means, and the last line.
pub record IsExploredText (synchronous : Bool) (found : ExploredValue) (left : List (List (List LinedLeftover))) (marks : List (Option Bool))
    (cycle : List ℕ) (runs : ℕ) (lines text : List ℕ) : Type 0 where
  pub outcomes : List ℕ
  pub each : AreWritten found.outcomes found.choices left lines (length found.outcomes) outcomes
  pub safe : List ℕ
  pub is_safe : IsSafeText synchronous found safe
  pub whole : text ≡ outcomes ++ safe ++ meaning_text synchronous found left marks cycle runs

-- what is printed of it in short: some lines, and behind them what was never received, whether the
-- program is safe, and what the outcomes mean
pub record IsSummary (synchronous : Bool) (found : ExploredValue) (left : List (List (List LinedLeftover))) (marks : List (Option Bool))
    (cycle : List ℕ) (runs : ℕ) (text : List ℕ) : Type 0 where
  pub races : List ℕ
  pub safe : List ℕ
  pub is_safe : IsSafeText synchronous found safe
  pub whole : text ≡ races ++ shorts_text 1 left ++ safe ++ meaning_text synchronous found left marks cycle runs

-- If a state came back at some lines, the program may go on for ever.
abbrev pub GoesOnAt : SendMode → ProgramValue → ℕ → List ℕ → Type 0
GoesOnAt mode program ranks cycle = cycle ≢ [] → MayGoOnForEver mode program ranks

-- The outcomes of the program on so many ranks, whose statements stand on these lines, are printed
-- with marks of their own and with the lines of what was never received, and behind them whether it is
-- safe.
pub record IsMarkedText (synchronous : Bool) (lines : List ℕ) (program : ProgramValue) (ranks : ℕ) (found : ExploredValue) (told : Safety) (runs : ℕ)
    (text : List ℕ) : Type 0 where
  pub marks : List (Option Bool)
  pub marked : AreMarked (mode_of synchronous) program ranks found.outcomes found.choices marks
  pub cycle : List ℕ
  pub goes_on : GoesOnAt (mode_of synchronous) program ranks cycle
  pub before : List ℕ
  pub left : List (List (List LinedLeftover))
  pub lined : AreLined (mode_of synchronous) program ranks lines found.outcomes found.left left
  pub printed : IsExploredText synchronous found left marks cycle runs lines before
  pub whole : text ≡ before ++ safety_behind synchronous told

-- so they are in short
pub record IsMarkedSummary (synchronous : Bool) (lines : List ℕ) (program : ProgramValue) (ranks : ℕ) (found : ExploredValue) (told : Safety) (runs : ℕ)
    (text : List ℕ) : Type 0 where
  pub marks : List (Option Bool)
  pub marked : AreMarked (mode_of synchronous) program ranks found.outcomes found.choices marks
  pub cycle : List ℕ
  pub goes_on : GoesOnAt (mode_of synchronous) program ranks cycle
  pub before : List ℕ
  pub left : List (List (List LinedLeftover))
  pub lined : AreLined (mode_of synchronous) program ranks lines found.outcomes found.left left
  pub printed : IsSummary synchronous found left marks cycle runs before
  pub whole : text ≡ before ++ safety_behind synchronous told

-- The outcomes of the program on so many ranks, whose statements stand on these lines, are an object
-- of JSON, with marks of their own and with the lines of what was never received. Nothing is said of
-- the races.
pub record IsMarkedObject (synchronous : Bool) (lines : List ℕ) (program : ProgramValue) (ranks : ℕ) (found : ExploredValue) (told : Safety)
    (text : List ℕ) : Type 0 where
  pub marks : List (Option Bool)
  pub marked : AreMarked (mode_of synchronous) program ranks found.outcomes found.choices marks
  pub left : List (List (List LinedLeftover))
  pub lined : AreLined (mode_of synchronous) program ranks lines found.outcomes found.left left
  pub written : IsSearchObject found left marks lines told text
