use Rattle.std.proofs.Common.{◌≡◌, length, arith, ◌∙◌}
use Rattle.std.proofs.lemmas.Grind.{common_steps}
use Rattle.rank_language.specs.Correct.{IsProgram}
use Rattle.rank_language.proofs.Statements.{statement_count}
use Rattle.rank_language.proofs.program.Program.len.Goals as goal

-- the result counts the statements
count : (c : goal.After-len) → c.len.result ≡ length c.args.self.now.statements
count c = grind (arith, common_steps)

pub returns-clause-lines : goal.returns-clause-lines
returns-clause-lines c =
    let h : IsProgram c.args.self.now = rw (← c.self.view_is) c.self.invariant.stands in
    let q = statement_count c.args.self.now h in
    count c ∙ q
