use Rattle.rank_machine.proofs.Determined.{inner_wants}
use Rattle.rank_machine.proofs.laws.law_inner_is_internal.Goals as goal

pub returns : goal.returns
returns c = inner_wants
