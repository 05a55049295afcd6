use Rattle.std.proofs.Common.{◌≡◌, Ok, Err, refl, sym, ap, ◌∙◌}
use Rattle.rank_language.specs.Seen.{collective_of}
use Rattle.rank_machine.specs.Values.{Valued}
use Rattle.rank_machine.specs.Collectives.{CollectiveCall, called}
use Rattle.rank_machine.specs.Calling.{call_of}
use Rattle.rank_machine.specs.Machine.{MachineValue}
use Rattle.rank_machine.proofs.Acting.{seen_part}
use Rattle.rank_machine.proofs.Receiving.{takes_call, head_taken, refused_machine, refused_state, taken_machine, taken_state}
use Rattle.rank_machine.proofs.machine.Machine.collect.Goals as goal

pub unreachable-requires : goal.unreachable-requires
unreachable-requires c =
    let x = collective_of c.args.collective.now in
    let a = takes_call c.args.self.now x c.args.packet.now c.requires.at_line c.requires.line c.requires.receiving in
    let f : MachineValue → Valued CollectiveCall = λ m. called m.store x in
    let e : Err c.in_default.field-0 ≡ Ok a.call = c.in_default.ensures.call ∙ ap f c.self.view_is ∙ a.called in
    cc

pub invariant_of-self : goal.invariant_of-self
invariant_of-self c =
    let x = collective_of c.args.collective.now in
    let t = c.in-Err.ensures.fault c.in-Err.fault refl in
    let e = head_taken c.self.inside.store x c.in-Ok.call c.deref.ensures c.packet.view_is t.0 in
    refused_machine _ x (call_of c.self.inside.store x c.in-Ok.call) c.args.packet.now.items c.in-Err.fault _ c.self.invariant e t.1

pub invariant_of-self-then-is_last : goal.invariant_of-self-then-is_last
invariant_of-self-then-is_last c =
    let r = c.requires in
    let i = seen_part c.self.view_is r.at_line r.line r.behind (sym c.in-Ok.ensures.call) c.in-Ok.ensures.ordinal in
    let h = c.in-Ok-collect.ensures in
    let e = head_taken c.self.inside.store (collective_of c.args.collective.now) c.in-Ok.call c.deref.ensures c.packet.view_is h.taken.1 in
    taken_machine c.args.packet.now c.self.view_is c.self.invariant i r.receiving e h.taken.2 h.variables h.lengths (sym c.if-is_last.ensures.last)

pub invariant_of-self-else-is_last : goal.invariant_of-self-else-is_last
invariant_of-self-else-is_last c =
    let r = c.requires in
    let i = seen_part c.self.view_is r.at_line r.line r.behind (sym c.in-Ok.ensures.call) c.in-Ok.ensures.ordinal in
    let h = c.in-Ok-collect.ensures in
    let e = head_taken c.self.inside.store (collective_of c.args.collective.now) c.in-Ok.call c.deref.ensures c.packet.view_is h.taken.1 in
    taken_machine c.args.packet.now c.self.view_is c.self.invariant i r.receiving e h.taken.2 h.variables h.lengths (sym c.if-is_last.ensures.last)

pub returns-in-Err-clause-state : goal.returns-in-Err-clause-state
returns-in-Err-clause-state c =
    let r = c.requires in
    let i = seen_part c.self.view_is r.at_line r.line r.behind (sym c.in-Ok.ensures.call) c.in-Ok.ensures.ordinal in
    let t = c.in-Err.ensures.fault c.in-Err.fault refl in
    let e = head_taken c.self.inside.store (collective_of c.args.collective.now) c.in-Ok.call c.deref.ensures c.packet.view_is t.0 in
    refused_state c.args.packet.now c.self.view_is i r.receiving e t.1

pub returns-in-Ok-collect-clause-state : goal.returns-in-Ok-collect-clause-state
returns-in-Ok-collect-clause-state c =
    let r = c.requires in
    let i = seen_part c.self.view_is r.at_line r.line r.behind (sym c.in-Ok.ensures.call) c.in-Ok.ensures.ordinal in
    let h = c.in-Ok-collect.ensures in
    let e = head_taken c.self.inside.store (collective_of c.args.collective.now) c.in-Ok.call c.deref.ensures c.packet.view_is h.taken.1 in
    taken_state c.args.packet.now c.self.view_is i r.receiving e h.taken.2 (sym c.if-is_last.ensures.last)

pub returns-else-is_last-clause-state : goal.returns-else-is_last-clause-state
returns-else-is_last-clause-state c =
    let r = c.requires in
    let i = seen_part c.self.view_is r.at_line r.line r.behind (sym c.in-Ok.ensures.call) c.in-Ok.ensures.ordinal in
    let h = c.in-Ok-collect.ensures in
    let e = head_taken c.self.inside.store (collective_of c.args.collective.now) c.in-Ok.call c.deref.ensures c.packet.view_is h.taken.1 in
    taken_state c.args.packet.now c.self.view_is i r.receiving e h.taken.2 (sym c.if-is_last.ensures.last)
