use Rattle.crash_free.proofs.LiveVariablesLaws.Acting.{agrees_further}
use Rattle.crash_free.proofs.live_variables.laws.law_agrees.Goals as goal

pub returns-clause-further : goal.returns-clause-further
returns-clause-further c = agrees_further
