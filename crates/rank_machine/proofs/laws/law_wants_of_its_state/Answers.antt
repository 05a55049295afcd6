use Rattle.rank_machine.proofs.Making.{wants_or}
use Rattle.rank_machine.proofs.laws.law_wants_of_its_state.Goals as goal

pub returns : goal.returns
returns c = wants_or c.args.machine.now
