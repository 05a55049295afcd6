-- What is answered to a traced run (docs/FORMATS.md, "Standard output of `trace`"). As text it
-- begins with the acts of a run without crashes.
use Rattle.std.specs.Prelude.{◌≡◌, ◌≢◌, ℕ, List, [], reverse}
use Rattle.audit.specs.Found.{IsFound}
use Rattle.audit.specs.Outcome.{OutcomeValue}
use Rattle.command_line.specs.declared.tracing.TraceForm.TheVariants as form
use Rattle.command_line.specs.declared.tracing.TraceJob.{TraceJob}
use Rattle.runner.specs.Reading.{IsProgramIn, IsScriptBy}
use Rattle.runner.specs.Reports.{IsReportUnder}
use Rattle.runner.specs.Statuses.{HasStatus}
use Rattle.crash_free.specs.Sim.{SimValue}
use Rattle.rank_language.specs.Program.{ProgramValue}
use Rattle.rank_threads.specs.declared.report.Report.{Report}
use Rattle.run_shown.specs.Trace.Lines.{BeginsWithActs}
use Rattle.runner.specs.Events.{PlaysReport, PlaysScriptOf}
use Rattle.rank_text.specs.declared.script.line.ScriptLine.{ScriptLine}

-- The text begins with the acts of a run without crashes of the program of this source on n ranks,
-- which has the outcome of a report. Each act stands with the line of its statement.
pub record TracesReport (source : List ℕ) (program : ProgramValue) (n : ℕ) (outcome : OutcomeValue) (steps : ℕ) (text : List ℕ) : Type 0 where
  pub run : SimValue
  pub found : IsFound program n outcome steps run
  pub acts : BeginsWithActs source program n (reverse run.run) text

-- A run that has the outcome of the report is told in the form of the job: act by act as text; as
-- events without a script those of the run, and with one those of the run with the script's lines
-- that were used. Nothing is said of JSON.
pub record IsToldIn (source : List ℕ) (program : ProgramValue) (job : TraceJob) (script : List ScriptLine) (report : Report) (out : List ℕ) : Type 0 where
  pub text : job.form ≡ form.Text → TracesReport source program job.run.ranks report.outcome job.run.steps out
  pub events : job.form ≡ form.Events → script ≡ [] → PlaysReport program job.run.ranks report.outcome job.run.steps out
  pub scripted : job.form ≡ form.Events → script ≢ [] → PlaysScriptOf program job.run.ranks report job.run.steps script out

-- The job's run was made, of this program and under this script: its validated report is told, and
-- the exit status says whether each rank halted.
pub record IsTold (source : List ℕ) (program : ProgramValue) (job : TraceJob) (script : List ScriptLine) (out : List ℕ) (status : ℕ) : Type 0 where
  pub report : Report
  pub of_run : IsReportUnder program job.run.ranks script job.run.steps report
  pub told : IsToldIn source program job script report out
  pub ended : HasStatus report.outcome status

-- What `trace` answers: that, of the program and the script that the files hold.
pub record IsTraceAnswer (holds : List ℕ → List ℕ → Type 0) (job : TraceJob) (out : List ℕ) (status : ℕ) : Type 0 where
  pub program : ProgramValue
  pub read : IsProgramIn (holds job.run.program.now) program
  pub lines : List ScriptLine
  pub given : IsScriptBy holds job.run.ranks job.run.script lines
  pub answer : IsTold read.text program job lines out status
