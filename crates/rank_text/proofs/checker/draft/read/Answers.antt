use Rattle.rank_text.proofs.CheckerLaws.ReadLaws.{program_of, whole_of, fault_of, accepted_of}
use Rattle.rank_text.proofs.checker.draft.read.Goals as goal

pub returns-clause-program : goal.returns-clause-program
returns-clause-program c = program_of c.read_all.result c.args.text.now c.read_all.ensures.reading

pub returns-clause-whole : goal.returns-clause-whole
returns-clause-whole c = whole_of c.read_all.result c.args.text.now c.read_all.ensures.reading

pub returns-clause-fault : goal.returns-clause-fault
returns-clause-fault c = fault_of c.read_all.result c.args.text.now c.read_all.ensures.reading

pub returns-clause-accepted : goal.returns-clause-accepted
returns-clause-accepted c = accepted_of c.read_all.result c.args.text.now c.read_all.ensures.reading
