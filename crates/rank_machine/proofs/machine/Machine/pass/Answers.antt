use Rattle.std.proofs.Common.{◌≡◌, Ok, Err, sym, ap, ◌∙◌}
use Rattle.rank_language.specs.Seen.{collective_of}
use Rattle.rank_machine.specs.Values.{Valued}
use Rattle.rank_machine.specs.Collectives.{CollectiveCall, called}
use Rattle.rank_machine.specs.Machine.{MachineValue}
use Rattle.rank_machine.proofs.Acting.{seen_part}
use Rattle.rank_machine.proofs.Sending.{sends_call, sent_is_machine, sent_state}
use Rattle.rank_machine.proofs.machine.Machine.pass.Goals as goal

pub unreachable-requires : goal.unreachable-requires
unreachable-requires c =
    let x = collective_of c.args.collective.now in
    let a = sends_call c.args.self.now x c.requires.at_line c.requires.line c.requires.sends in
    let f : MachineValue → Valued CollectiveCall = λ m. called m.store x in
    let e : Err c.in_default.field-0 ≡ Ok a.call = c.in_default.ensures.call ∙ ap f c.self.view_is ∙ a.called in
    cc

pub invariant_of-self : goal.invariant_of-self
invariant_of-self c =
    let r = c.requires in
    let p = seen_part c.self.view_is r.at_line r.line r.behind (sym c.in-Ok.ensures.call) c.in-Ok.ensures.ordinal in
    sent_is_machine c.self.view_is c.self.invariant p r.sends c.pass.ensures.stored (sym c.if-is_last.ensures.last)

pub invariant_of-self-else-is_last : goal.invariant_of-self-else-is_last
invariant_of-self-else-is_last c =
    let r = c.requires in
    let p = seen_part c.self.view_is r.at_line r.line r.behind (sym c.in-Ok.ensures.call) c.in-Ok.ensures.ordinal in
    sent_is_machine c.self.view_is c.self.invariant p r.sends c.pass.ensures.stored (sym c.if-is_last.ensures.last)

pub returns-then-is_last-clause-state : goal.returns-then-is_last-clause-state
returns-then-is_last-clause-state c =
    let r = c.requires in
    let p = seen_part c.self.view_is r.at_line r.line r.behind (sym c.in-Ok.ensures.call) c.in-Ok.ensures.ordinal in
    sent_state c.self.view_is p r.sends c.pass.ensures.stored (sym c.if-is_last.ensures.last)

pub returns-else-is_last-clause-state : goal.returns-else-is_last-clause-state
returns-else-is_last-clause-state c =
    let r = c.requires in
    let p = seen_part c.self.view_is r.at_line r.line r.behind (sym c.in-Ok.ensures.call) c.in-Ok.ensures.ordinal in
    sent_state c.self.view_is p r.sends c.pass.ensures.stored (sym c.if-is_last.ensures.last)
