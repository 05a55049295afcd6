-- What is answered to a soak: runs under scripts that were drawn, one after another
-- (docs/FORMATS.md, "Standard output of `soak`").
use Rattle.std.specs.Prelude.{◌≡◌, ◌≢◌, ◌↔◌, ◌≤◌, ◌+◌, ◌++◌, ℕ, List, [], Some, true, false, nat_lt, slice_get, string_bytes, IsTrue}
use Rattle.command_line.specs.declared.soaking.SoakJob.{SoakJob}
use Rattle.command_line.specs.declared.soaking.SoakScriptJob.{SoakScriptJob}
use Rattle.explore.specs.Explored.{ExploredValue}
use Rattle.explore.specs.Outcomes.{AreAll, AreDistinct, IsAmong}
use Rattle.runner.specs.Reading.{IsProgramIn}
use Rattle.runner.specs.Reports.{IsReportUnder}
use Rattle.run_events.specs.Halting.{HaveHalted}
use Rattle.audit.specs.declared.outcome.End.TheVariants as end
use Rattle.audit.specs.FinalRuns.Final.{seen_of}
use Rattle.audit.specs.FinalRuns.Maximal.{RankOutcome}
use Rattle.explore.specs.Sending.{IsPossibleUnder}
use Rattle.rank_language.specs.Program.{ProgramValue}
use Rattle.rank_threads.specs.declared.report.Report.{Report}
use Rattle.runner.specs.SoakText.{IsSoakText, failed_text}
use Rattle.runner.specs.declared.soaked.Soaked.{Soaked}
use Rattle.rank_text.specs.Scripts.Script.{script_lines}
use Rattle.rank_text.specs.declared.script.line.ScriptLine.{ScriptLine}
use Rattle.outcomes.specs.Soak.Histogram.{BarValue, Notes, up_to}
use Rattle.outcomes.specs.Soak.Lines.{CanBeUsed, images_in, kills_in}
use Rattle.outcomes.specs.Soak.Text.{text_of}
use Rattle.explore.specs.declared.send_mode.SendMode.TheVariants.{Buffered}

-- no run was made: none counts, no rank crashed, and none is left that didn't halt
pub record IsOfNone (soaked : Soaked) : Type 0 where
  pub none : soaked.histogram ≡ []
  pub crashes : soaked.crashes ≡ 0
  pub halted : soaked.all_halted ≡ true
  pub failed : string_bytes soaked.failed ≡ []

-- A run with this report is counted: in the bar of its outcome, as one with a crash if a rank
-- crashed, and its crashes among all; and every rank halted so far if it did in this run too.
pub record CountsReport (report : Report) (old new : Soaked) : Type 0 where
  pub counted : Notes old.histogram (seen_of report.outcome) (nat_lt 0 report.crashes) new.histogram
  pub crashes : new.crashes ≡ up_to (old.crashes + report.crashes)
  pub halted : IsTrue new.all_halted ↔ (IsTrue old.all_halted × HaveHalted report.outcome.ends)
  pub failed : string_bytes new.failed ≡ string_bytes old.failed

-- A run without a report counts in no bar, and not every run had all its ranks halt. Its number and
-- its script are told; of the words that say why nothing is claimed.
pub record CountsNone (number : ℕ) (script : List ℕ) (old new : Soaked) : Type 0 where
  pub counted : new.histogram ≡ old.histogram
  pub crashes : new.crashes ≡ old.crashes
  pub halted : new.all_halted ≡ false
  pub why : List ℕ
  pub told : string_bytes new.failed ≡ string_bytes old.failed ++ failed_text number why script

-- The script is read of this text of lines that were drawn: each can be used once those before it
-- are, and there are no more kills and images than the job allows.
pub record IsDrawn (job : SoakJob) (text : List ℕ) (script : List ScriptLine) : Type 0 where
  pub lines : List ScriptLine
  pub spelled : text ≡ text_of lines
  pub read : script ≡ script_lines text
  pub usable : CanBeUsed lines
  pub kills : kills_in lines ≤ job.kills
  pub images : images_in lines ≤ job.images

-- The run of this number was made, under a script that was drawn: it has a validated report, or
-- none.
pub data IsOneMore (program : ProgramValue) (job : SoakJob) (number : ℕ) (old new : Soaked) : Type 0 where
  reported : (text : List ℕ) (script : List ScriptLine) (report : Report) → IsDrawn job text script
      → IsReportUnder program job.ranks script job.steps report → CountsReport report old new → IsOneMore program job number old new
  failed : (text : List ℕ) (script : List ScriptLine) → IsDrawn job text script → CountsNone number text old new
      → IsOneMore program job number old new

-- So many runs were made, one after another, and came to this.
pub data AreSoaked (program : ProgramValue) (job : SoakJob) : ℕ → Soaked → Type 0 where
  none : {soaked : Soaked} → IsOfNone soaked → AreSoaked program job 0 soaked
  more : {runs : ℕ} {old new : Soaked} → AreSoaked program job runs old → IsOneMore program job (runs + 1) old new
      → AreSoaked program job (runs + 1) new

-- the exit status behind a soak: 0 if and only if each run has a report and each rank halted in
-- each, and else 1
pub record HasSoakStatus (soaked : Soaked) (status : ℕ) : Type 0 where
  pub halted : (status ≡ 0) ↔ IsTrue soaked.all_halted
  pub else_one : status ≤ 1

-- no rank is unfinished in this outcome
abbrev pub IsFinished : List RankOutcome → Type 0
IsFinished outcome = (r : ℕ) (seen : RankOutcome) → slice_get outcome r ≡ Some seen → seen.end ≢ end.Unfinished

-- What a search found beside the runs: the program may have each outcome, and if the search is
-- complete, it has no other. Then each outcome that runs had is one of these, unless a rank is
-- unfinished in it: none is foreign to the search.
pub record IsSearched (program : ProgramValue) (ranks : ℕ) (bars : List BarValue) (found : ExploredValue) : Type 0 where
  pub possible : (outcome : List RankOutcome) → IsAmong found.outcomes outcome → IsPossibleUnder Buffered program ranks outcome
  pub complete : found.complete ≡ true → AreAll Buffered program ranks found.outcomes
  pub distinct : AreDistinct found.outcomes
  pub none_foreign : found.complete ≡ true → (at : ℕ) (bar : BarValue) → slice_get bars at ≡ Some bar
      → IsFinished bar.outcome → IsAmong found.outcomes bar.outcome

-- What `soak` answers: what as many runs came to as the job asks for, of the program that the file
-- holds, beside what a search found, and the status of these runs.
pub record IsSoakAnswer (holds : List ℕ → Type 0) (job : SoakJob) (out : List ℕ) (status : ℕ) : Type 0 where
  pub program : ProgramValue
  pub read : IsProgramIn holds program
  pub soaked : Soaked
  pub made : AreSoaked program job job.runs soaked
  pub found : ExploredValue
  pub searched : IsSearched program job.ranks soaked.histogram found
  pub printed : IsSoakText soaked found job.runs out
  pub ended : HasSoakStatus soaked status

-- What `soak --script-of` answers: the text of a script that was drawn, if the run is one of those
-- that the job asks for, and status 0.
pub record IsSoakScriptAnswer (holds : List ℕ → Type 0) (job : SoakScriptJob) (out : List ℕ) (status : ℕ) : Type 0 where
  pub program : ProgramValue
  pub read : IsProgramIn holds program
  pub one_of : job.number ≤ job.soak.runs
  pub script : List ScriptLine
  pub drawn : IsDrawn job.soak out script
  pub done : status ≡ 0
