use Rattle.small_runner.proofs.Rows.{short}
use Rattle.small_runner.proofs.around.Around.row_of.Goals as goal

-- src/around.rt
pub returns-in-Ok-clause-most : goal.returns-in-Ok-clause-most
returns-in-Ok-clause-most c = short _ _ _ _ _ _ c.in-Ok.ensures.ok c.row-row.ensures.value c.row-row.ensures.law
