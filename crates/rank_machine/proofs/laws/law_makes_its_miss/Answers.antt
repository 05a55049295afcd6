use Rattle.rank_machine.proofs.Making.{makes_missed}
use Rattle.rank_machine.proofs.laws.law_makes_its_miss.Goals as goal

pub returns : goal.returns
returns c = makes_missed c.args.machine.now
