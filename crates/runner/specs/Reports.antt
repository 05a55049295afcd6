-- The validated report of a run that the arguments ask for.
use Rattle.std.specs.Prelude.{◌≡◌, ℕ, List}
use Rattle.audit.specs.Reachable.{IsReachable}
use Rattle.command_line.specs.declared.job.RunJob.{RunJob}
use Rattle.runner.specs.Reading.{IsProgramIn, IsScriptBy}
use Rattle.rank_language.specs.Program.{ProgramValue}
use Rattle.rank_threads.specs.Causes.{AreCaused}
use Rattle.rank_threads.specs.Kills.{kills_used}
use Rattle.rank_threads.specs.Report.{IsOfALogger, IsReport}
use Rattle.rank_threads.specs.declared.report.Report.{Report}
use Rattle.rank_text.specs.declared.script.line.ScriptLine.{ScriptLine}

-- This is a report of a run of the program on so many ranks under this script, in which each rank
-- may make so many steps. It was validated; its crashes are the kills of the script that were used;
-- its rows, its ends and its calls are those of ranks that lived at desks of one logger; and each
-- unfinished rank has a cause.
pub record IsReportUnder (program : ProgramValue) (ranks : ℕ) (script : List ScriptLine) (steps : ℕ) (report : Report) : Type 0 where
  pub is_report : IsReport program ranks report
  pub within : IsReachable program ranks report.outcome steps
  pub crashes : report.crashes ≡ kills_used script report.unused.items
  pub lives : IsOfALogger program ranks script steps report
  pub unfinished : AreCaused steps report

-- It is one of the job's run: of the program and under the script that the files hold.
pub record IsReportOf (holds : List ℕ → List ℕ → Type 0) (job : RunJob) (report : Report) : Type 0 where
  pub program : ProgramValue
  pub read : IsProgramIn (holds job.program.now) program
  pub script : List ScriptLine
  pub given : IsScriptBy holds job.ranks job.script script
  pub under : IsReportUnder program job.ranks script job.steps report
