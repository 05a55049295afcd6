use Rattle.std.proofs.Common.{◌≡◌, refl, sym, ◌∙◌}
use Rattle.rank_language.specs.Program.{block_of}
use Rattle.rank_language.specs.Seen.{line_of}
use Rattle.rank_machine.specs.declared.want.Want.TheVariants as want
use Rattle.rank_machine.specs.Machine.{standing}
use Rattle.rank_machine.proofs.Lines.{past_machine_wants}
use Rattle.rank_machine.proofs.Compacting.{statement_made, statement_stays, statement_stands}
use Rattle.rank_machine.proofs.store.Store.follow_statement.Goals as goal

pub returns-in_default-clause-stands : goal.returns-in_default-clause-stands
returns-in_default-clause-stands c =
    let h = c.in_default.ensures in
    let m = c.requires.machine in
    let e = past_machine_wants _ _ (block_of c.args.program.now) c.args.position c.args.self.now (sym h.line) refl m.limits.position (h.past.0 refl) in
    λ _. λ i. (let f : want.Halted ≡ want.Internal = e ∙ i in cc)

pub returns-clause-made : goal.returns-clause-made
returns-clause-made c =
    let f = c.follow.ensures in
    let i = c.in-Some.ensures in
    statement_made (standing c.args.program.now c.args.position c.args.self.now) (line_of c.in-Some.statement.now) c.follow.result c.follow.new.self
    c.requires.machine refl (sym i.line) i.there i.within f.next f.stored f.variables f.arrays f.lengths f.rank

pub returns-clause-stays : goal.returns-clause-stays
returns-clause-stays c =
    let f = c.follow.ensures in
    statement_stays c.args.self.now c.follow.new.self (line_of c.in-Some.statement.now) c.args.position c.follow.result f.next f.stored

pub returns-clause-stands : goal.returns-clause-stands
returns-clause-stands c =
    let f = c.follow.ensures in
    let i = c.in-Some.ensures in
    statement_stands c.args.program.now c.args.position c.args.self.now (line_of c.in-Some.statement.now) c.follow.result (sym i.line) i.there f.next
