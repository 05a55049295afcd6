use Rattle.runner.proofs.Apart.{known_line}
use Rattle.runner.proofs.commands.apart.line_of_print.Goals as goal

-- the line is that of the run that was made again
pub returns-in_ok-line_in-in-Some : goal.returns-in_ok-line_in-in-Some
returns-in_ok-line_in-in-Some c =
    known_line c.args.told.now.program c.args.told.now.lines.items c.args.job.ranks c.args.outcome.now.ranks c.args.rank c.args.number c.in-Some.run'.run _
    (rw c.in-Some.is at c.in_ok-run.ensures.outcome) c.in_ok-line_in-in-Some.ensures
