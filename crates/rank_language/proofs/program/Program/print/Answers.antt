use Rattle.std.proofs.Common.{rules, ◌≡◌, IfOk}
use Rattle.rank_text.specs.Printer.Canonical.{program_text}
use Rattle.rank_language.specs.Correct.{IsProgram}
use Rattle.rank_language.specs.Named.{forms_of}
use Rattle.rank_language.proofs.Printed.{printed_result}
use Rattle.rank_language.proofs.program.Program.print.Goals as goal

pub returns-clause-program : goal.returns-clause-program
returns-clause-program c =
    let h : IsProgram c.args.self.now = rw (← c.self.view_is) c.self.invariant.stands in
    let q : IfOk c.print.result (λ text. text.items ≡ program_text (forms_of c.args.self.now)) = search rules in
    printed_result c.print.result c.args.self.now h q
