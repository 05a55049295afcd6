-- What is answered to a search for all outcomes of a program (docs/FORMATS.md, "Standard output of
-- `explore`").
use Rattle.std.specs.Prelude.{◌≡◌, ◌≤◌, ◌↔◌, ◌⊎◌, ℕ, true, false, IsTrue, List, [], ◌++◌}
use Rattle.command_line.specs.declared.exploring.ExploreForm.TheVariants as form
use Rattle.command_line.specs.declared.exploring.ExploreJob.{ExploreJob}
use Rattle.explore.specs.Counting.{GoesBeyond}
use Rattle.crash_free.specs.Sim.{start_of}
use Rattle.explore.specs.Cycles.{MayGoOnForEver}
use Rattle.explore.specs.Endings.{AreLeftovers}
use Rattle.explore.specs.Explored.{ExploredValue}
use Rattle.explore.specs.Exploring.{AlwaysEndsIn}
use Rattle.explore.specs.Outcomes.{AreAll, AreDistinct, IsAmong}
use Rattle.explore.specs.Small.{IsSmall}
use Rattle.audit.specs.FinalRuns.Maximal.{RankOutcome}
use Rattle.explore.specs.Sending.{IsPossibleUnder}
use Rattle.rank_language.specs.Program.{ProgramValue}
use Rattle.runner.specs.Crashes.{CrashesAddNone}
use Rattle.runner.specs.Determinism.{IsKnown, known_text, needs_telling}
use Rattle.runner.specs.Events.{PlaysOutcome}
use Rattle.run_events.specs.Halting.{AllHalt}
use Rattle.runner.specs.Modes.{mode_of}
use Rattle.runner.specs.OutcomesText.{IsMarkedObject, IsMarkedSummary, IsMarkedText}
use Rattle.rank_language.specs.StandOn.{IsLinedOf}
use Rattle.rank_text.specs.Checker.Faults.{IsFaultOf}
use Rattle.rank_text.specs.declared.checker.fault.FaultKind.{FaultKind}
use Rattle.runner.specs.Safety.{IsVerdict, needs_second}
use Rattle.runner.specs.declared.commands.determinism.Determinism.{Determinism}
use Rattle.runner.specs.declared.commands.determinism.Determinism.TheVariants as known
use Rattle.runner.specs.declared.explored.safety.Safety.{Safety}
use Rattle.runner.specs.declared.explored.safety.Safety.TheVariants as safety
use Rattle.telling.specs.Telling.{IsTelling, IsUntellable}
use Rattle.telling.specs.declared.program.Telling.{Telling}
use Rattle.telling.specs.declared.program.Telling.TheVariants as telling
use Rattle.explore.specs.declared.send_mode.SendMode.{SendMode}
use Rattle.explore.specs.declared.send_mode.SendMode.TheVariants.{Buffered, Synchronous}

-- What a search found, in so many runs at most, of the program's runs by a mode of sends: the program
-- may have each outcome, and what is listed of it was never received in some run that has it; if the
-- search is complete, in no such run something else was left. If the search is complete, the program
-- has no other outcome, and however its ranks go on by this mode they come to an end that was found.
-- Of crashes it speaks only where sends are buffered, as they are in each run with crashes.
-- The search of a small program is complete. If it is closed, the program has no other outcome
-- either, but has runs of any length. One that is neither looked at all these runs, or a rank came to
-- the job's limit of steps, and then some rank goes beyond it. No outcome stands there twice, and no
-- more runs were looked at.
pub record IsFoundBy (program : ProgramValue) (mode : SendMode) (job : ExploreJob) (runs : ℕ) (found : ExploredValue) : Type 0 where
  pub possible : (outcome : List RankOutcome) → IsAmong found.outcomes outcome → IsPossibleUnder mode program job.ranks outcome
  pub complete : found.complete ≡ true → AreAll mode program job.ranks found.outcomes
  pub closed : found.closed ≡ true → AreAll mode program job.ranks found.outcomes
  pub left : AreLeftovers mode program job.ranks found.complete found.outcomes found.left
  pub all_left : found.closed ≡ true → AreLeftovers mode program job.ranks true found.outcomes found.left
  pub endless : found.closed ≡ true → MayGoOnForEver mode program job.ranks
  pub ends : found.complete ≡ true → AlwaysEndsIn mode (start_of program job.ranks) job.ranks (IsAmong found.outcomes) []
  pub crashes : mode ≡ Buffered → found.complete ≡ true → CrashesAddNone program job.ranks found.outcomes
  pub small : IsSmall mode program job.ranks runs job.steps → found.complete ≡ true
  pub stopped : found.complete ≡ false → found.closed ≡ false → (found.runs ≡ runs) ⊎ IsTrue found.out_of_steps
  pub beyond : found.out_of_steps ≡ true → GoesBeyond mode program job.ranks job.steps
  pub distinct : AreDistinct found.outcomes
  pub few_runs : found.runs ≤ runs

-- the exit status behind a search: 0 if and only if it is complete and each rank halts in each
-- outcome, and else 1
pub record HasSearchStatus (found : ExploredValue) (status : ℕ) : Type 0 where
  pub halts : (status ≡ 0) ↔ ((found.complete ≡ true) × AllHalt found.outcomes)
  pub else_one : status ≤ 1

-- What is said after a second search, of the program's synchronous runs, within the limits of the
-- job: the verdict of what was found of them.
pub record IsSecond (lines : List ℕ) (program : ProgramValue) (job : ExploreJob) (told : Safety) : Type 0 where
  pub found : ExploredValue
  pub searched : IsFoundBy program Synchronous job job.runs found
  pub verdict : IsVerdict lines program job.ranks found told

-- Whether the program is safe of which this was found. If that was found of its synchronous runs, this
-- has the verdict; if not, a second search may be needed.
pub record IsSafetyOf (lines : List ℕ) (program : ProgramValue) (job : ExploreJob) (found : ExploredValue) (told : Safety) : Type 0 where
  pub itself : job.synchronous ≡ true → IsVerdict lines program job.ranks found told
  pub untold : job.synchronous ≡ false → needs_second job program found ≡ false → told ≡ safety.Untold
  pub second : job.synchronous ≡ false → needs_second job program found ≡ true → IsSecond lines program job told

-- What is known of a telling program, whose statements stand on these lines, by what a search in so
-- many runs at most found of it.
pub record IsKnownIn (runs : ℕ) (program : ProgramValue) (lines : List ℕ) (job : ExploreJob) (told : Determinism) : Type 0 where
  pub found : ExploredValue
  pub searched : IsFoundBy program Buffered job runs found
  pub told_of : IsKnown program lines job.ranks found told

-- So it is by a search within the limits of the job. It came to a limit only if it was allowed as many
-- runs as the job allows.
pub record IsKnownWithin (program : ProgramValue) (lines : List ℕ) (job : ExploreJob) (told : Determinism) : Type 0 where
  pub runs : ℕ
  pub few : runs ≤ job.runs
  pub searched : IsKnownIn runs program lines job told
  pub whole : told ≡ known.Stopped → runs ≡ job.runs

-- What is said after searches of a telling program of the text, within the limits of the job: that
-- there is none, or what is known of it.
pub data IsToldOf (what : Telling) (text : List ℕ) (job : ExploreJob) : Determinism → Type 0 where
  past : IsUntellable what text → IsToldOf what text job known.PastLimits
  faulty : {line : ℕ} {kind : FaultKind} → IsFaultOf text line kind → IsToldOf what text job known.Untold
  searched : {told : Determinism} (program : ProgramValue) (lines : List ℕ) → IsTelling what text program lines
      → IsKnownWithin program lines job told → IsToldOf what text job told

-- these lines say it of sends, and of receptions
pub record AreToldOf (text : List ℕ) (job : ExploreJob) (lines : List ℕ) : Type 0 where
  pub sends : Determinism
  pub of_sends : IsToldOf telling.Sends text job sends
  pub receptions : Determinism
  pub of_receptions : IsToldOf telling.Receptions text job receptions
  pub whole : lines ≡ known_text telling.Sends sends ++ known_text telling.Receptions receptions

-- The lines on whether sends and receptions are the same in all runs of the program in whose text
-- this was found; none if that isn't looked for.
pub record IsDeterminismText (text : List ℕ) (job : ExploreJob) (found : ExploredValue) (lines : List ℕ) : Type 0 where
  pub untold : needs_telling job found ≡ false → lines ≡ []
  pub told : needs_telling job found ≡ true → AreToldOf text job lines

-- Standard output has the text of what was found, or the short one, or the object of JSON, or a run
-- of the outcome that the job names, as events, of the program whose statements stand on these
-- lines. Of JSON nothing is said of the races.
pub record IsPrinted (lines : List ℕ) (program : ProgramValue) (job : ExploreJob) (found : ExploredValue) (told : Safety) (out : List ℕ) : Type 0 where
  pub text : job.form ≡ form.Text → IsMarkedText job.synchronous lines program job.ranks found told job.runs out
  pub summary : job.form ≡ form.Summary → IsMarkedSummary job.synchronous lines program job.ranks found told job.runs out
  pub json : job.form ≡ form.Json → IsMarkedObject job.synchronous lines program job.ranks found told out
  pub events : (number : ℕ) → job.form ≡ form.Events number → PlaysOutcome (mode_of job.synchronous) program job.ranks found.outcomes number out

-- What was found by a search of the program of a text, whose statements stand on these lines, is
-- printed, with whether it is safe, whether sends and receptions are the same in all runs, and its
-- status.
pub record IsSearchAnswer (text lines : List ℕ) (program : ProgramValue) (job : ExploreJob) (out : List ℕ) (status : ℕ) : Type 0 where
  pub found : ExploredValue
  pub searched : IsFoundBy program (mode_of job.synchronous) job job.runs found
  pub told : Safety
  pub safety : IsSafetyOf lines program job found told
  pub before : List ℕ
  pub printed : IsPrinted lines program job found told before
  pub behind : List ℕ
  pub determinism : IsDeterminismText text job found behind
  pub whole : out ≡ before ++ behind
  pub ended : HasSearchStatus found status

-- What `explore` answers: that, of the program of a text that the file holds.
pub record IsExploreAnswer (holds : List ℕ → Type 0) (job : ExploreJob) (out : List ℕ) (status : ℕ) : Type 0 where
  pub text : List ℕ
  pub held : holds text
  pub program : ProgramValue
  pub lines : List ℕ
  pub searched : IsLinedOf text program lines
  pub answer : IsSearchAnswer text lines program job out status
