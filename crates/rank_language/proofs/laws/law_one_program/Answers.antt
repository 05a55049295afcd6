use Rattle.rank_language.proofs.OneProgram as laws
use Rattle.rank_language.proofs.laws.law_one_program.Goals as goal

pub returns-clause-one : goal.returns-clause-one
returns-clause-one c = laws.one_program

pub returns-clause-no_fault : goal.returns-clause-no_fault
returns-clause-no_fault c = laws.program_or_fault
