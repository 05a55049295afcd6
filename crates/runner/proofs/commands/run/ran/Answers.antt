use Rattle.std.proofs.Common.{string_bytes}
use Rattle.runner.proofs.Answers.{is_run_answer}
use Rattle.runner.proofs.Unreceived.{is_run_told}
use Rattle.runner.proofs.commands.run.ran.Goals as goal

-- a report of the job's run, printed, is an answer
pub returns-in-Ok-clause-answer : goal.returns-in-Ok-clause-answer
returns-in-Ok-clause-answer g c =
    is_run_answer (g.F.Files.holds c.args.files.now) c.args.job c.in_ok-made.made.report c.in-Ok.said.out.items c.in-Ok.said.status
    c.in_ok-made.ensures.report c.in-Ok.ensures.out

-- and what was never received is told
pub returns-in-Ok-clause-told : goal.returns-in-Ok-clause-told
returns-in-Ok-clause-told g c =
    is_run_told (g.F.Files.holds c.args.files.now) c.args.job c.in_ok-made.made.report c.in-Ok.said.out.items (string_bytes c.in_ok-made.made.left)
    (string_bytes c.in-Ok.said.err) c.in-Ok.said.status c.in_ok-made.ensures.report c.in-Ok.ensures.out c.in_ok-made.ensures.left c.in-Ok.ensures.err
