-- A text that begins with the acts of the run that was found, and goes on; and how what is told of
-- a run is an answer.
use Rattle.std.proofs.Common.{◌≡◌, ◌≢◌, ℕ, List, [], ◌++◌, ap, ◌∙◌, reverse, subst}
use Rattle.std.proofs.lemmas.List.{append_assoc}
use Rattle.audit.specs.Found.{IsFound}
use Rattle.audit.specs.Outcome.{OutcomeValue}
use Rattle.command_line.specs.declared.tracing.TraceForm.TheVariants as form
use Rattle.command_line.specs.declared.tracing.TraceJob.{TraceJob}
use Rattle.runner.proofs.Reading.{script_held_before}
use Rattle.runner.specs.Reading.{IsScriptBy}
use Rattle.runner.specs.Reports.{IsReportUnder}
use Rattle.runner.specs.Statuses.{HasStatus}
use Rattle.crash_free.specs.Runs.{Passed}
use Rattle.crash_free.specs.Sim.{SimValue}
use Rattle.rank_language.specs.Program.{ProgramValue}
use Rattle.run_shown.specs.Trace.Lines.{BeginsWithActs, acts_text}
use Rattle.rank_threads.specs.declared.report.Report.{Report}
use Rattle.runner.specs.Events.{PlaysReport, PlaysScriptOf}
use Rattle.runner.specs.Traces.{IsTold, IsTraceAnswer, TracesReport}
use Rattle.rank_text.specs.declared.script.line.ScriptLine.{ScriptLine}
use Rattle.rank_language.specs.StandOn.{IsLinedOf}

-- a text that begins with the acts does so with more behind it
pub goes_on : (source : List ℕ) (program : ProgramValue) (n : ℕ) (acts : List Passed) (text more now : List ℕ)
    → BeginsWithActs source program n acts text → now ≡ text ++ more → BeginsWithActs source program n acts now
goes_on source program n acts text more now begins is = record {
  lines = begins.lines;
  lined = begins.lined;
  places = begins.places;
  found = begins.found;
  rest = begins.rest ++ more;
  written = is ∙ ap (λ z. z ++ more) begins.written ∙ append_assoc (acts_text begins.lines acts begins.places) begins.rest more;
}

-- the run that was found behind a report is written
pub traces_report : (source : List ℕ) (program : ProgramValue) (n : ℕ) (outcome : OutcomeValue) (steps : ℕ) (run : SimValue) (text : List ℕ)
    → IsFound program n outcome steps run → BeginsWithActs source program n (reverse run.run) text
    → TracesReport source program n outcome steps text
traces_report source program n outcome steps run text found acts = record { run = run; found = found; acts = acts }

-- the report of a run within the job's steps is told
pub is_told : (source : List ℕ) (program : ProgramValue) (job : TraceJob) (script : List ScriptLine) (steps : ℕ) (report : Report) (out : List ℕ)
    (status : ℕ) → steps ≡ job.run.steps → IsReportUnder program job.run.ranks script steps report → HasStatus report.outcome status
    → (job.form ≡ form.Text → TracesReport source program job.run.ranks report.outcome job.run.steps out)
    → (job.form ≡ form.Events → script ≡ [] → PlaysReport program job.run.ranks report.outcome job.run.steps out)
    → (job.form ≡ form.Events → script ≢ [] → PlaysScriptOf program job.run.ranks report job.run.steps script out)
    → IsTold source program job script out status
is_told source program job script steps report out status is under ended text events lines = record {
  report = report;
  of_run = subst (λ (s : ℕ). IsReportUnder program job.run.ranks script s report) is under;
  told = record { text = text; events = events; scripted = lines };
  ended = ended;
}

-- so it is an answer, under a script that is read once the program is
pub is_trace_answer : (holds held : List ℕ → List ℕ → Type 0) (job : TraceJob) (source : List ℕ) (program : ProgramValue) (numbers : List ℕ)
    (script : List ScriptLine) (out : List ℕ) (status : ℕ) → held job.run.program.now source → IsLinedOf source program numbers
    → ((file text : List ℕ) → holds file text → held file text) → IsScriptBy holds job.run.ranks job.run.script script
    → IsTold source program job script out status → IsTraceAnswer held job out status
is_trace_answer holds held job source program numbers script out status has lined kept given told = record {
  program = program;
  read = record { text = source; held = has; read = record { forms = lined.forms; reads = lined.reads; program = lined.program } };
  lines = script;
  given = script_held_before holds held job.run.ranks job.run.script script kept given;
  answer = told;
}
