use Rattle.std.proofs.Common.{inl}
use Rattle.runner.proofs.commands.command_watched.Goals as goal

-- what is said to words instead of a job is an answer to them
pub returns-in-Err : goal.returns-in-Err
returns-in-Err g c = record {
  known = c.tell_no_job.ensures.known;
  answer = λ other. let told = c.tell_no_job.ensures.answer _ c.in-Err.ensures.asked other in (told.0, told.1, inl told.2);
}
