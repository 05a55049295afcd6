-- How what is said is an answer.
use Rattle.std.proofs.Common.{◌≡◌, ◌∙◌, ℕ, List, [], Option, inl, length, refl, subst, sym}
use Rattle.std.specs.Io.KnownBytes.{Appends}
use Rattle.std.proofs.KnownBytes.{Appends-nil}
use Rattle.audit.specs.Reachable.{IsReachable}
use Rattle.command_line.specs.declared.job.Job.{Job}
use Rattle.command_line.specs.declared.job.RunJob.{RunJob}
use Rattle.runner.specs.Answers.{IsCheckAnswer, IsJobAnswer, IsReportText, IsRunAnswer}
use Rattle.runner.proofs.Reading.{program_of_lined, script_held_before}
use Rattle.runner.specs.Reading.{IsLinedIn, IsProgramIn, IsScriptBy}
use Rattle.runner.specs.Reasons.{IsRefusalOf}
use Rattle.runner.specs.Refusals.{status_of}
use Rattle.runner.specs.Reports.{IsReportOf, IsReportUnder}
use Rattle.runner.specs.declared.commands.refusal.Refusal.{Refusal}
use Rattle.runner.specs.declared.commands.refusal.Refusal.TheVariants as refusal
use Rattle.rank_language.specs.Correct.{IsProgramOf}
use Rattle.rank_language.specs.Named.{forms_of}
use Rattle.rank_language.specs.Program.{ProgramValue}
use Rattle.rank_text.specs.Printer.Canonical.{program_text}
use Rattle.rank_threads.specs.Causes.{AreCaused}
use Rattle.rank_threads.specs.Kills.{kills_used}
use Rattle.rank_threads.specs.Report.{IsOfALogger, IsReport}
use Rattle.rank_threads.specs.declared.report.Report.{Report}
use Rattle.rank_text.specs.declared.script.line.ScriptLine.{ScriptLine}

-- what a run promises of its report
pub is_report_under : (program : ProgramValue) (ranks : ℕ) (script : List ScriptLine) (steps : ℕ) (report : Report)
    → IsReport program ranks report → IsReachable program ranks report.outcome steps → report.crashes ≡ kills_used script report.unused.items
    → IsOfALogger program ranks script steps report → AreCaused steps report → IsReportUnder program ranks script steps report
is_report_under program ranks script steps report is_report within crashes lives unfinished =
    record { is_report = is_report; within = within; crashes = crashes; lives = lives; unfinished = unfinished }

-- a report under the script that is read once the program is, and within the job's steps
pub is_report_of : (holds held : List ℕ → List ℕ → Type 0) (job : RunJob) (program : ProgramValue) (lines : List ℕ) (script : List ScriptLine)
    (steps : ℕ) (report : Report) → IsLinedIn (held job.program.now) program lines → ((file text : List ℕ) → holds file text → held file text)
    → IsScriptBy holds job.ranks job.script script → steps ≡ job.steps → IsReportUnder program job.ranks script steps report
    → IsReportOf held job report
is_report_of holds held job program lines script steps report read kept given is under = record {
  program = program;
  read = program_of_lined (held job.program.now) program lines read;
  script = script;
  given = script_held_before holds held job.ranks job.script script kept given;
  under = subst (λ (s : ℕ). IsReportUnder program job.ranks script s report) is under;
}

-- a report of the job's run says of each rank how it ended
pub as_many_ends : (holds : List ℕ → List ℕ → Type 0) (job : RunJob) (report : Report) → IsReportOf holds job report
    → length report.outcome.ends ≡ job.ranks
as_many_ends holds job report of_run = of_run.under.within.1.as_many_ends

-- the text of a report of the job's run is an answer of `run`
pub is_run_answer : (holds : List ℕ → List ℕ → Type 0) (job : RunJob) (report : Report) (out : List ℕ) (status : ℕ)
    → IsReportOf holds job report → IsReportText job.costs report out status → IsRunAnswer holds job out status
is_run_answer holds job report out status of_run printed =
    record { report = report; of_run = of_run; printed = printed }

-- the canonical text of the program is an answer of `check`
pub is_check_answer : (holds : List ℕ → Type 0) (program : ProgramValue) (text out : List ℕ) (status : ℕ)
    → IsProgramIn holds program → text ≡ program_text (forms_of program) → IsProgramOf text program → out ≡ text → status ≡ 0
    → IsCheckAnswer holds out status
is_check_answer holds program text out status read canonical again same done = record {
  program = program;
  read = read;
  canonical = same ∙ canonical;
  again = subst (λ (t : List ℕ). IsProgramOf t program) (sym same) again;
  done = done;
}

-- if there is no memory, each job is answered by that refusal
pub no_memory : (holds : List ℕ → List ℕ → Type 0) (job : Job) → IsJobAnswer holds job [] 4
no_memory holds job = inl (record { silent = refl; refusal = refusal.Memory; reason = λ other. absurd (other refl); code = refl })

-- a refusal that has its reason is an answer
pub is_refused : (holds : List ℕ → List ℕ → Type 0) (job : Job) (refused : Refusal) (out : List ℕ) (status : ℕ) → IsRefusalOf holds job refused
    → out ≡ [] → status ≡ status_of refused → IsJobAnswer holds job out status
is_refused holds job refused out status reason silent code = inl (record { silent = silent; refusal = refused; reason = reason; code = code })

-- a stream that isn't written to grows by nothing
pub nothing_written : (held : Option (List ℕ)) → Appends held held []
nothing_written held = Appends-nil held
