use Rattle.c_program.proofs.Naming.{same_name}
use Rattle.c_program.proofs.laws.law_names_differ.Goals as goal

pub returns : goal.returns
returns c = same_name
