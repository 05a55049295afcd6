-- How what is said to words is an answer.
use Rattle.std.proofs.Common.{◌≡◌, ◌≢◌, ℕ, List, [], Option, refl}
use Rattle.std.specs.Io.KnownBytes.{Appends}
use Rattle.std.proofs.KnownBytes.{Appends-nil}
use Rattle.command_line.specs.Requests.{IsAsked}
use Rattle.command_line.specs.declared.no_job.NoJob.{NoJob}
use Rattle.command_line.specs.declared.no_job.NoJob.TheVariants as no_job
use Rattle.runner.specs.Commands.{IsWithoutJob}
use Rattle.runner.specs.Statuses.{help_in, status_without_job}

-- what is said to words instead of a job
pub is_without_job : (words : List (List ℕ)) (no_job : NoJob) (out : List ℕ) (status : ℕ) → IsAsked words no_job → out ≡ help_in no_job
    → status ≡ status_without_job no_job → IsWithoutJob words out status
is_without_job words no_job out status asked text code = record { no_job = no_job; asked = asked; text = text; code = code }

-- that there is no memory is said to any words
pub without_memory : (words : List (List ℕ)) → IsWithoutJob words [] 4
without_memory words = record { no_job = no_job.Memory; asked = tt; text = refl; code = refl }

-- A stream holds what it did and this answer, unless the status is 5.
abbrev pub Answers : (List ℕ → ℕ → Type 0) → Option (List ℕ) → Option (List ℕ) → ℕ → Type 0
Answers is_answer before after status = status ≢ 5 → (out : List ℕ) × Appends before after out × is_answer out status
