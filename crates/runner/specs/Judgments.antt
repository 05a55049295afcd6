-- What is answered to a judged outcome: the verdict, as text and as exit status (docs/FORMATS.md,
-- "Standard output of `judge`").
use Rattle.std.specs.Prelude.{◌≡◌, ℕ, ◌≤◌, ◌++◌, List, [], None, true, false, codes}
use Rattle.audit.specs.Outcome.{OutcomeValue}
use Rattle.command_line.specs.declared.judging.JudgeJob.{JudgeJob}
use Rattle.runner.specs.Reading.{IsProgramIn}
use Rattle.audit.specs.FinalRuns.Final.{IsFinal}
use Rattle.outcomes.specs.Judge.Judged.{IsNoneWithin, IsNoText}
use Rattle.outcomes.specs.Text.Outcomes.{TextValue, outcome_of}
use Rattle.outcomes.specs.Text.Texts.{entries_of, first_fault}
use Rattle.rank_language.specs.Program.{ProgramValue}
use Rattle.runner.specs.Traces.{TracesReport}

-- status 0 says that some run without crashes has the outcome, in which each rank reported as
-- stalled has stalled, and status 1 that no such run of so many steps of each rank has it
pub record HasVerdict (program : ProgramValue) (n : ℕ) (outcome : OutcomeValue) (steps status : ℕ) : Type 0 where
  pub yes : status ≡ 0 → IsFinal program n outcome
  pub no : status ≡ 1 → IsNoneWithin program n outcome steps
  pub else_one : status ≤ 1

-- A yes is printed as `yes`. If the job asks for a run, the acts of one that has the outcome stand
-- behind it, each with the line of its statement in the program's source, and else nothing.
pub record IsYesText (source : List ℕ) (program : ProgramValue) (job : JudgeJob) (outcome : OutcomeValue) (text : List ℕ) : Type 0 where
  pub rest : List ℕ
  pub whole : text ≡ codes "yes\n" ++ rest
  pub alone : job.trace ≡ false → rest ≡ []
  pub traced : job.trace ≡ true → TracesReport source program job.ranks outcome job.steps rest

-- The verdict on an outcome is told: the status has it, and what is printed is a yes or a no with
-- this status.
pub record TellsVerdict (source : List ℕ) (program : ProgramValue) (job : JudgeJob) (outcome : OutcomeValue) (out : List ℕ) (status : ℕ) : Type 0 where
  pub verdict : HasVerdict program job.ranks outcome job.steps status
  pub yes : status ≡ 0 → IsYesText source program job outcome out
  pub no : status ≡ 1 → IsNoText out

-- These are the entries of an outcome's text, of so many ranks, that the file holds.
pub record IsOutcomeTextIn (holds : List ℕ → Type 0) (ranks : ℕ) (read : TextValue) : Type 0 where
  pub text : List ℕ
  pub held : holds text
  pub faultless : first_fault ranks text ≡ None
  pub entries : read.entries ≡ entries_of text
  pub of_ranks : read.ranks ≡ ranks

-- The verdict on the outcome that a text of the file tells.
pub record TellsVerdictOf (holds : List ℕ → Type 0) (source : List ℕ) (program : ProgramValue) (job : JudgeJob) (out : List ℕ) (status : ℕ) : Type 0 where
  pub outcome : TextValue
  pub given : IsOutcomeTextIn holds job.ranks outcome
  pub told : TellsVerdict source program job (outcome_of outcome) out status

-- What `judge` answers: the verdict on the outcome that the one file holds, for the program that the
-- other holds.
pub record IsJudgeAnswer (holds : List ℕ → List ℕ → Type 0) (job : JudgeJob) (out : List ℕ) (status : ℕ) : Type 0 where
  pub program : ProgramValue
  pub read : IsProgramIn (holds job.program.now) program
  pub answer : TellsVerdictOf (holds job.outcome.now) read.text program job out status
