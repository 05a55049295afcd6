use Rattle.checkpoint.proofs.Saving.{table_is}
use Rattle.checkpoint.proofs.image.law_within_table.Goals as goal

pub returns : goal.returns
returns c = table_is c.args.program.now c.law_within_limits.ensures.lines c.law_within_limits.ensures.variables
    c.law_within_limits.ensures.arrays c.arrays-arrays.ensures.sized
