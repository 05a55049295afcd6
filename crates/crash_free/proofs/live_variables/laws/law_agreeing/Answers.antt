use Rattle.crash_free.proofs.LiveVariablesLaws.Stepping.{inner_same}
use Rattle.crash_free.proofs.LiveVariablesLaws.Acting.{next_same}
use Rattle.crash_free.proofs.live_variables.laws.law_agreeing.Goals as goal

pub returns-clause-inner : goal.returns-clause-inner
returns-clause-inner c = inner_same

pub returns-clause-next : goal.returns-clause-next
returns-clause-next c = next_same
