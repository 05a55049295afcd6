use Rattle.rank_text.proofs.CheckerLaws.TextLaws.{one_program, one_fault}
use Rattle.rank_text.proofs.checker.laws.law_one_reading.Goals as goal

pub returns-clause-program : goal.returns-clause-program
returns-clause-program c = one_program

pub returns-clause-fault : goal.returns-clause-fault
returns-clause-fault c = one_fault
