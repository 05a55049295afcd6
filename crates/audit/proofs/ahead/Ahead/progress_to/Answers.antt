use Rattle.audit.proofs.GoingAhead.{within_new}
use Rattle.audit.proofs.ahead.Ahead.progress_to.Goals as goal

pub returns-clause-within : goal.returns-clause-within
returns-clause-within c = within_new c.args.goal.now.outcome.now c.new.result c.new.ensures.run
