-- Whether each rank's sends are the same in all runs of a program: then it is send-deterministic
-- (Cappello, Guermouche and Snir, 2010), and rollback recovery may rely on that. So it is asked of
-- receptions. Both are looked for among the runs of a telling program (docs/MPI.md, "Send-determinism").
use Rattle.std.specs.Prelude.{◌≡◌, ◌≢◌, ◌==◌, ℕ, ℤ, Bool, true, false, not, ◌&&◌, if◌then◌else◌, List, [], ◌++◌, Option, Some, None, map, max, min, slice_get, codes}
use Rattle.std.specs.Fmt.{decimal}
use Rattle.command_line.specs.declared.exploring.ExploreForm.{ExploreForm}
use Rattle.command_line.specs.declared.exploring.ExploreForm.TheVariants as form
use Rattle.command_line.specs.declared.exploring.ExploreJob.{ExploreJob}
use Rattle.audit.specs.FinalRuns.Maximal.{RankOutcome}
use Rattle.explore.specs.Sending.{IsPossibleUnder}
use Rattle.explore.specs.Explored.{ExploredValue}
use Rattle.explore.specs.Outcomes.{IsAmong}
use Rattle.rank_language.specs.Program.{ProgramValue}
use Rattle.runner.specs.Apart.{AreLinesApart}
use Rattle.runner.specs.declared.commands.apart.Apart.{Apart}
use Rattle.runner.specs.declared.commands.determinism.Determinism.{Determinism}
use Rattle.runner.specs.declared.commands.determinism.Determinism.TheVariants as known
use Rattle.telling.specs.declared.program.Telling.{Telling}
use Rattle.telling.specs.declared.program.Telling.TheVariants as telling
use Rattle.explore.specs.declared.send_mode.SendMode.TheVariants.{Buffered}

-- what each rank printed
abbrev pub printed : List RankOutcome → List (List ℤ)
printed outcome = map (λ (seen : RankOutcome). seen.lines) outcome

-- each rank printed the same in each of these outcomes
pub record AreAlike (outcomes : List (List RankOutcome)) : Type 0 where
  pub alike : (one other : List RankOutcome) → IsAmong outcomes one → IsAmong outcomes other → printed one ≡ printed other

-- a rank printed other lines in the one than in the other
abbrev pub PrintsOther : ℕ → List RankOutcome → List RankOutcome → Type 0
PrintsOther rank one other = slice_get (printed one) rank ≢ slice_get (printed other) rank

-- so it is of these two of the outcomes
pub record ArePartedAt (rank : ℕ) (one other : List RankOutcome) (outcomes : List (List RankOutcome)) : Type 0 where
  pub one_among : IsAmong outcomes one
  pub other_among : IsAmong outcomes other
  pub apart : PrintsOther rank one other

-- each rank prints the same in all runs of the program
abbrev pub IsSameInAll : ProgramValue → ℕ → Type 0
IsSameInAll program n = (one other : List RankOutcome) → IsPossibleUnder Buffered program n one → IsPossibleUnder Buffered program n other → printed one ≡ printed other

-- this rank prints other lines in some run than in another, and these are the lines of the text at
-- which it first prints another value
pub record Differs (program : ProgramValue) (lines : List ℕ) (n : ℕ) (first : Apart) : Type 0 where
  pub one : List RankOutcome
  pub other : List RankOutcome
  pub one_possible : IsPossibleUnder Buffered program n one
  pub other_possible : IsPossibleUnder Buffered program n other
  pub apart : PrintsOther first.rank one other
  pub at_lines : AreLinesApart program lines n one other first

-- What is known after a search of the telling program, whose statements stand on these lines: each rank
-- prints the same in all its runs, or this one doesn't; or all outcomes that were found are alike, and
-- the search isn't complete.
pub data IsKnown (program : ProgramValue) (lines : List ℕ) (n : ℕ) (found : ExploredValue) : Determinism → Type 0 where
  same : found.complete ≡ true → IsSameInAll program n → IsKnown program lines n found known.Same
  differ : {apart : Apart} → Differs program lines n apart → IsKnown program lines n found (known.Differ apart)
  stopped : found.complete ≡ false → AreAlike found.outcomes → IsKnown program lines n found known.Stopped

-- the job asks for the short form
abbrev pub is_summary : ExploreForm → Bool
is_summary form.Text = false
is_summary form.Summary = true
is_summary form.Json = false
is_summary (form.Events number) = false

-- the telling programs are searched if the first search is complete, sends don't wait in it, and the
-- short form is asked for
abbrev pub needs_telling : ExploreJob → ExploredValue → Bool
needs_telling job found = found.complete && is_summary job.form && not job.synchronous

-- the line if all is the same
abbrev pub same_text : Telling → List ℕ
same_text telling.Sends = codes "# send-deterministic: each rank's sends are the same in all runs\n"
same_text telling.Receptions = codes "# each rank's receptions are the same in all runs\n"

-- which rank's sends or receptions aren't
unfoldable pub who_differs : Telling → ℕ → List ℕ
who_differs telling.Sends rank = codes "# not send-deterministic: rank " ++ decimal rank ++ codes " doesn't send the same in all runs"
who_differs telling.Receptions rank = codes "# rank " ++ decimal rank ++ codes " doesn't receive the same in all runs"

-- the lower and the higher of two lines, as far as they are known
abbrev pub lines_between : Option ℕ → Option ℕ → Option (ℕ × ℕ)
lines_between None None = None
lines_between None (Some line) = Some (line, line)
lines_between (Some line) None = Some (line, line)
lines_between (Some one) (Some other) = Some (min one other, max one other)

-- at which lines, as `, first at line 3` or `, first at lines 3 and 4`
unfoldable pub first_text : Option (ℕ × ℕ) → List ℕ
first_text None = []
first_text (Some (line, other)) =
    if line == other then codes ", first at line " ++ decimal line else codes ", first at lines " ++ decimal line ++ codes " and " ++ decimal other

-- the line if it isn't all the same
abbrev pub differ_text : Telling → Apart → List ℕ
differ_text t apart = who_differs t apart.rank ++ first_text (lines_between apart.one apart.other) ++ codes "\n"

-- the line if there is no telling program
abbrev pub past_text : Telling → List ℕ
past_text telling.Sends = codes "# not known whether it is send-deterministic: with prints of its sends it passes a limit of texts\n"
past_text telling.Receptions = codes "# not known whether receptions are the same in all runs: with prints of them it passes a limit of texts\n"

-- the line if its search came to a limit
abbrev pub stopped_text : Telling → List ℕ
stopped_text telling.Sends = codes "# not known whether it is send-deterministic: the search with prints of its sends came to a limit\n"
stopped_text telling.Receptions = codes "# not known whether receptions are the same in all runs: the search with prints of them came to a limit\n"

-- the line that says what is known
abbrev pub known_text : Telling → Determinism → List ℕ
known_text t known.Untold = []
known_text t known.Same = same_text t
known_text t (known.Differ apart) = differ_text t apart
known_text t known.PastLimits = past_text t
known_text t known.Stopped = stopped_text t
