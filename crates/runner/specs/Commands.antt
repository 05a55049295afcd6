-- What is answered to the words that the program is called with (docs/FORMATS.md, "Command").
use Rattle.std.specs.Prelude.{◌≡◌, ◌⊎◌, ℕ, List}
use Rattle.command_line.specs.Jobs.{IsJobOf}
use Rattle.command_line.specs.Requests.{IsAsked}
use Rattle.command_line.specs.declared.job.Job.{Job}
use Rattle.command_line.specs.declared.no_job.NoJob.{NoJob}
use Rattle.runner.specs.Statuses.{help_in, status_without_job}

-- No job is done: the words ask for help, which alone goes to standard output, or they are refused, or
-- there is no memory. So if no word asks for help, standard output is empty, and the status isn't 0.
pub record IsWithoutJob (words : List (List ℕ)) (out : List ℕ) (status : ℕ) : Type 0 where
  pub no_job : NoJob
  pub asked : IsAsked words no_job
  pub text : out ≡ help_in no_job
  pub code : status ≡ status_without_job no_job

-- The words name this job, and it has this answer.
pub record IsOfAJob (answers : Job → List ℕ → ℕ → Type 0) (words : List (List ℕ)) (out : List ℕ) (status : ℕ) : Type 0 where
  pub job : Job
  pub named : IsJobOf words job
  pub answered : answers job out status

-- What is answered to words: that of the job which they name, or no job is done.
abbrev pub IsCommandAnswer : (Job → List ℕ → ℕ → Type 0) → List (List ℕ) → List ℕ → ℕ → Type 0
IsCommandAnswer answers words out status = IsWithoutJob words out status ⊎ IsOfAJob answers words out status
