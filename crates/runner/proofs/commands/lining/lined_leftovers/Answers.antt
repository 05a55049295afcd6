use Rattle.runner.proofs.SentLines.{known_lines}
use Rattle.runner.proofs.commands.lining.lined_leftovers.Goals as goal

-- the lines are those of the run that was made again
pub returns-in_ok-lined_left-in-Some : goal.returns-in_ok-lined_left-in-Some
returns-in_ok-lined_left-in-Some c =
    known_lines c.args.mode c.args.program.now c.args.job.ranks c.args.lines.now c.args.outcome.now.ranks c.args.left.now
    c.in-Some.run'.run _
    (rw c.in-Some.is at c.in_ok-run.ensures.ending)
    c.in_ok-lined_left-in-Some.ensures
