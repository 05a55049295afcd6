-- What the program answers if its words name no job of its own, and behind a run (docs/FORMATS.md,
-- "Command").
use Rattle.std.specs.Prelude.{◌≡◌, ◌≤◌, ◌↔◌, ℕ, List, []}
use Rattle.std.specs.String.{string_bytes}
use Rattle.audit.specs.Outcome.{OutcomeValue}
use Rattle.run_events.specs.Halting.{HaveHalted}
use Rattle.command_line.specs.declared.no_job.NoJob.{NoJob}
use Rattle.command_line.specs.declared.no_job.NoJob.TheVariants as no_job

-- 0 for help, 3 for a mistake in the words, 4 if there is no memory
abbrev pub status_without_job : NoJob → ℕ
status_without_job (no_job.Help text) = 0
status_without_job (no_job.Mistake text) = 3
status_without_job no_job.Memory = 4

-- what goes to standard output: help alone
abbrev pub help_in : NoJob → List ℕ
help_in (no_job.Help text) = string_bytes text
help_in (no_job.Mistake text) = []
help_in no_job.Memory = []

-- what goes to standard error: what is wrong with the words
abbrev pub mistake_in : NoJob → List ℕ
mistake_in (no_job.Help text) = []
mistake_in (no_job.Mistake text) = string_bytes text
mistake_in no_job.Memory = []

-- the exit status behind a run: 0 if and only if every rank halted, and else 1
pub record HasStatus (outcome : OutcomeValue) (status : ℕ) : Type 0 where
  pub halted : (status ≡ 0) ↔ HaveHalted outcome.ends
  pub else_one : status ≤ 1
