use Rattle.rank_text.proofs.CheckerLaws.TextLaws.{program_or_fault, one_of_both}
use Rattle.rank_text.proofs.checker.laws.law_program_or_fault.Goals as goal

pub returns-clause-never_both : goal.returns-clause-never_both
returns-clause-never_both c = program_or_fault

pub returns-clause-always_one : goal.returns-clause-always_one
returns-clause-always_one c = one_of_both
