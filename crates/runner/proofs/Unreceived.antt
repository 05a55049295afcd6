-- How what was never received is told of a run.
use Rattle.std.proofs.Common.{◌≡◌, ◌∙◌, ℕ, List, [], ◌++◌, ap, length, subst, sym}
use Rattle.audit.specs.Found.{IsFound}
use Rattle.audit.specs.Outcome.{OutcomeValue}
use Rattle.command_line.specs.declared.job.RunJob.{RunJob}
use Rattle.crash_free.specs.Runs.{Passed}
use Rattle.crash_free.specs.Sim.{SimValue}
use Rattle.rank_language.specs.Program.{ProgramValue}
use Rattle.rank_threads.specs.declared.report.Report.{Report}
use Rattle.runner.specs.Answers.{IsReportText}
use Rattle.runner.specs.LeftText.{left_text}
use Rattle.runner.specs.Reading.{IsLinedIn}
use Rattle.runner.specs.Reports.{IsReportOf}
use Rattle.runner.specs.SentLines.{AreSentAt}
use Rattle.runner.specs.declared.explored.lined.LinedLeftover.{LinedLeftover}
use Rattle.runner.specs.Unreceived.{IsRunTold, TellsLeft, TellsSent}

-- lines on messages that were sent at these lines
pub tells_sent : (program : ProgramValue) (n : ℕ) (lines these : List ℕ) (run : List Passed) (left messages told : List LinedLeftover)
    (before after : List ℕ) → AreSentAt program n these run left → these ≡ lines → told ≡ messages → messages ≡ left → before ≡ []
    → after ≡ before ++ left_text [] told → TellsSent program n lines run after
tells_sent program n lines these run left messages told before after sent same as_slice as_view empty written = record {
  left = left;
  sent = subst (λ ls. AreSentAt program n ls run left) same sent;
  told = written ∙ ap (λ xs. xs ++ left_text [] told) empty ∙ ap (left_text []) (as_slice ∙ as_view);
}

-- a run that was found has a machine for each rank
pub as_many_machines : (program : ProgramValue) (n : ℕ) (outcome : OutcomeValue) (steps : ℕ) (run : SimValue)
    → IsFound program n outcome steps run → length run.machines ≡ n
as_many_machines program n outcome steps run found = found.size

-- of a run that was found within the job's steps
pub tells_left : (held : List ℕ → List ℕ → Type 0) (job : RunJob) (program : ProgramValue) (lines : List ℕ) (report : Report) (steps : ℕ)
    (run : SimValue) (err : List ℕ) → IsLinedIn (held job.program.now) program lines → steps ≡ job.steps
    → IsFound program job.ranks report.outcome steps run → TellsSent program job.ranks lines run.run err → TellsLeft held job report err
tells_left held job program lines report steps run err read is found told = record {
  program = program;
  lines = lines;
  read = read;
  run = run;
  found = subst (λ (s : ℕ). IsFound program job.ranks report.outcome s run) is found;
  told = told;
}

-- beside the text of its report
pub is_run_told : (held : List ℕ → List ℕ → Type 0) (job : RunJob) (report : Report) (out err err' : List ℕ) (status : ℕ) → IsReportOf held job report
    → IsReportText job.costs report out status → TellsLeft held job report err → err' ≡ err → IsRunTold held job out err' status
is_run_told held job report out err err' status of_run printed left same = record {
  report = report;
  of_run = of_run;
  printed = printed;
  left = subst (TellsLeft held job report) (sym same) left;
}
