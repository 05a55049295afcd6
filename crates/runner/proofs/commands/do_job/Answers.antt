use Rattle.std.proofs.Common.{[], sym, subst}
use Rattle.runner.specs.Answers.{IsJobAnswer}
use Rattle.runner.proofs.Answers.{no_memory, nothing_written}
use Rattle.runner.proofs.commands.do_job.Goals as goal

-- there is no memory for the words of a refusal, so nothing is written
pub returns-in-Err-said-clause-answer : goal.returns-in-Err-said-clause-answer
returns-in-Err-said-clause-answer g c = λ other. (
  [],
  nothing_written (g.O.Write.contents c.args.out.now),
  subst (λ status. IsJobAnswer (g.F.Files.holds c.args.files.now) c.args.job [] status) (sym c.tell_no_memory.ensures)
      (no_memory (g.F.Files.holds c.args.files.now) c.args.job),
)
