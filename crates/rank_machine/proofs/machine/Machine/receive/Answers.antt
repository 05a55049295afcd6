use Rattle.std.proofs.Common.{◌≡◌, ℕ, length, ap, subst, ◌∙◌}
use Rattle.matching.specs.PacketValue.{PacketValue, IsPacketValue}
use Rattle.rank_machine.proofs.Receiving.{seen_taking, long_state, fit_state, fit_machine}
use Rattle.rank_machine.proofs.machine.Machine.receive.Goals as goal

pub returns-then-len-room-clause-state : goal.returns-then-len-room-clause-state
returns-then-len-room-clause-state c =
    let r = c.requires in
    let i = seen_taking c.self.view_is (subst IsPacketValue c.packet.view_is c.packet.invariant) r.at_line r.line.2 r.receiving in
    let Size : PacketValue → ℕ = λ z. length z.items in
    let size : c.len.result ≡ length c.args.packet.now.items = c.len.ensures.value ∙ ap Size c.packet.view_is in
    long_state c.self.view_is i (rw (c.room.ensures, size) at c.if-len-room.true)

pub invariant_of-self-2 : goal.invariant_of-self-2
invariant_of-self-2 c =
    let r = c.requires in
    let i = seen_taking c.self.view_is (subst IsPacketValue c.packet.view_is c.packet.invariant) r.at_line r.line.2 r.receiving in
    fit_machine c.self.view_is c.self.invariant i c.take.ensures.stored c.take.ensures.lengths r.source r.behind

pub returns-clause-state : goal.returns-clause-state
returns-clause-state c =
    let r = c.requires in
    let i = seen_taking c.self.view_is (subst IsPacketValue c.packet.view_is c.packet.invariant) r.at_line r.line.2 r.receiving in
    let Size : PacketValue → ℕ = λ z. length z.items in
    let size : c.len.result ≡ length c.args.packet.now.items = c.len.ensures.value ∙ ap Size c.packet.view_is in
    fit_state c.self.view_is i (rw (c.room.ensures, size) at c.if-len-room.false) c.take.ensures.stored
