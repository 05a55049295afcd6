use Rattle.rank_language.proofs.Lining.{lined, as_many}
use Rattle.rank_language.proofs.lined.LinedProgram.parse.Goals as goal

pub returns-in-Ok-statement_lines-clause-each : goal.returns-in-Ok-statement_lines-clause-each
returns-in-Ok-statement_lines-clause-each c =
    let of = c.in-Ok.ensures {u = tt} in
    let lines = c.in-Ok-statement_lines.lines.items in
    as_many c.args.text.now c.in-Ok.program lines
    (lined c.args.text.now c.in-Ok.program lines of.program (c.in-Ok-statement_lines.ensures {u = tt}))
