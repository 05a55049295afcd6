-- What is told on standard error behind the report of a run: what was never received in a run without
-- crashes that has the outcome of the report (docs/FORMATS.md, "Standard output of `run`").
use Rattle.std.specs.Prelude.{◌≡◌, ℕ, List, []}
use Rattle.audit.specs.Found.{IsFound}
use Rattle.command_line.specs.declared.job.RunJob.{RunJob}
use Rattle.crash_free.specs.Runs.{Passed}
use Rattle.crash_free.specs.Sim.{SimValue}
use Rattle.rank_language.specs.Program.{ProgramValue}
use Rattle.rank_threads.specs.declared.report.Report.{Report}
use Rattle.runner.specs.Answers.{IsReportText}
use Rattle.runner.specs.LeftText.{left_text}
use Rattle.runner.specs.Reading.{IsLinedIn}
use Rattle.runner.specs.Reports.{IsReportOf}
use Rattle.runner.specs.SentLines.{AreSentAt}
use Rattle.runner.specs.declared.explored.lined.LinedLeftover.{LinedLeftover}

-- what was never received in this run of the program on n ranks, whose statements stand on these lines,
-- is told with the lines of the sends
pub record TellsSent (program : ProgramValue) (n : ℕ) (lines : List ℕ) (run : List Passed) (err : List ℕ) : Type 0 where
  pub left : List LinedLeftover
  pub sent : AreSentAt program n lines run left
  pub told : err ≡ left_text [] left

-- a run without crashes, of the program that the file holds, has the outcome of the report, and this is
-- told of what was never received in it
pub record TellsLeft (holds : List ℕ → List ℕ → Type 0) (job : RunJob) (report : Report) (err : List ℕ) : Type 0 where
  pub program : ProgramValue
  pub lines : List ℕ
  pub read : IsLinedIn (holds job.program.now) program lines
  pub run : SimValue
  pub found : IsFound program job.ranks report.outcome job.steps run
  pub told : TellsSent program job.ranks lines run.run err

-- standard output has the text of a report of the job's run, and standard error what was never received
pub record IsRunTold (holds : List ℕ → List ℕ → Type 0) (job : RunJob) (out err : List ℕ) (status : ℕ) : Type 0 where
  pub report : Report
  pub of_run : IsReportOf holds job report
  pub printed : IsReportText job.costs report out status
  pub left : TellsLeft holds job report err
