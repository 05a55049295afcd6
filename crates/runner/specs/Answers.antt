-- What is answered to a job: standard output and the exit status (docs/FORMATS.md, "Command").
use Rattle.std.specs.Prelude.{◌≡◌, ◌⊎◌, ℕ, List, ◌++◌}
use Rattle.command_line.specs.declared.costing.CostForm.{CostForm}
use Rattle.command_line.specs.declared.job.Job.{Job}
use Rattle.command_line.specs.declared.job.Job.TheVariants as job
use Rattle.command_line.specs.declared.job.RunJob.{RunJob}
use Rattle.rank_language.specs.Correct.{IsProgramOf}
use Rattle.rank_language.specs.Named.{forms_of}
use Rattle.rank_language.specs.Program.{ProgramValue}
use Rattle.rank_text.specs.Printer.Canonical.{program_text}
use Rattle.rank_threads.specs.declared.report.Report.{Report}
use Rattle.runner.specs.CostsText.{costs_text}
use Rattle.runner.specs.Explanations.{IsExplainAnswer}
use Rattle.runner.specs.Judgments.{IsJudgeAnswer}
use Rattle.runner.specs.Objects.{IsObjectsAnswer}
use Rattle.runner.specs.Reading.{IsProgramIn}
use Rattle.runner.specs.Refusals.{IsRefused}
use Rattle.runner.specs.ReportText.{report_text}
use Rattle.runner.specs.Reports.{IsReportOf}
use Rattle.runner.specs.Searches.{IsExploreAnswer}
use Rattle.runner.specs.Soaks.{IsSoakAnswer, IsSoakScriptAnswer}
use Rattle.runner.specs.Statuses.{HasStatus}
use Rattle.runner.specs.Traces.{IsTraceAnswer}
use Rattle.runner.specs.Translations.{IsCAnswer}
use Rattle.runner.specs.Worlds.{IsWorldAnswer}
use Rattle.runner.specs.declared.commands.world.WorldQuestion.TheVariants as wanted

-- Standard output is the text of this report, with what its run cost behind it in the form that is
-- asked for, and the exit status says whether every rank halted.
pub record IsReportText (form : CostForm) (report : Report) (out : List ℕ) (status : ℕ) : Type 0 where
  pub text : out ≡ report_text report ++ costs_text form report
  pub ended : HasStatus report.outcome status

-- What `run` answers: the text and the status of a report of the job's run, and its costs if the
-- job asks for them.
pub record IsRunAnswer (holds : List ℕ → List ℕ → Type 0) (job : RunJob) (out : List ℕ) (status : ℕ) : Type 0 where
  pub report : Report
  pub of_run : IsReportOf holds job report
  pub printed : IsReportText job.costs report out status

-- What `check` answers: the canonical text of the program that the file holds, which is again a
-- text of that program, and status 0.
pub record IsCheckAnswer (holds : List ℕ → Type 0) (out : List ℕ) (status : ℕ) : Type 0 where
  pub program : ProgramValue
  pub read : IsProgramIn holds program
  pub canonical : out ≡ program_text (forms_of program)
  pub again : IsProgramOf out program
  pub done : status ≡ 0

-- The job is done, where files hold what they do: this is what its command answers. Nothing is
-- claimed of the text of `world --json`, nor of the words of an explanation.
abbrev pub IsDone : (List ℕ → List ℕ → Type 0) → Job → List ℕ → ℕ → Type 0
IsDone holds (job.Check check) out status = IsCheckAnswer (holds check.program.now) out status
IsDone holds (job.C c) out status = IsCAnswer (holds c.program.now) c.synchronous out status
IsDone holds (job.Run run) out status = IsRunAnswer holds run out status
IsDone holds (job.Trace run) out status = IsTraceAnswer holds run out status
IsDone holds (job.World world) out status = IsWorldAnswer holds world wanted.Replies out status
IsDone holds (job.WorldJson world) out status = IsObjectsAnswer holds world status
IsDone holds (job.CatchUp world) out status = IsWorldAnswer holds world wanted.WayOn out status
IsDone holds (job.Finish finish) out status = IsWorldAnswer holds finish.world (wanted.TheEnd finish.steps) out status
IsDone holds (job.Explain texts) out status = IsExplainAnswer holds texts out status
IsDone holds (job.Explore search) out status = IsExploreAnswer (holds search.program.now) search out status
IsDone holds (job.Judge outcome) out status = IsJudgeAnswer holds outcome out status
IsDone holds (job.Soak runs) out status = IsSoakAnswer (holds runs.program.now) runs out status
IsDone holds (job.SoakScript script) out status = IsSoakScriptAnswer (holds script.soak.program.now) script out status

-- What is answered to a job: it is refused for a reason, or it is done.
abbrev pub IsJobAnswer : (List ℕ → List ℕ → Type 0) → Job → List ℕ → ℕ → Type 0
IsJobAnswer holds named out status = IsRefused holds named out status ⊎ IsDone holds named out status
