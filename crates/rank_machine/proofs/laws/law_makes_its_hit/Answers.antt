use Rattle.rank_machine.proofs.Making.{makes_hit}
use Rattle.rank_machine.proofs.laws.law_makes_its_hit.Goals as goal

pub returns : goal.returns
returns c = λ place h. makes_hit c.args.machine.now c.args.packet.now place h
