use Rattle.runner.proofs.SentLines.{one_more_listed}
use Rattle.runner.proofs.commands.lining.lined_outcome.Goals as goal

-- of this list too
pub loop-index-preserved : goal.loop-index-preserved
loop-index-preserved c =
    one_more_listed c.args.mode c.args.program.now c.args.job.ranks c.args.lines.now c.args.outcome.now.ranks c.args.outcome.now.left c.loop-index.index
    c.loop-index.left.items c.push.new.self.items c.leftovers_at-some.result.now _ c.loop-index.invariant c.leftovers_at-some.ensures
    c.in_ok-lined_leftovers.ensures c.in_ok-push.ensures.items
