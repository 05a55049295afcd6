use Rattle.std.proofs.Common.{◌≡◌, ◌+◌, [], ◌∷◌, ◌++◌, ap, sym, subst, ◌∙◌}
use Rattle.matching.specs.PacketValue.{PacketValue}
use Rattle.payload_log.specs.Backlog.{BacklogValue, IsBacklog, backlog_of}
use Rattle.payload_log.specs.declared.backlog.Backlog.TheInside.{Inside}
use Rattle.payload_log.proofs.BacklogLemmas.{is_backlog_kept, is_backlog_let_go}
use Rattle.payload_log.proofs.backlog.Backlog.save.Goals.{then-self-number+else-is_err, else-self-number}
use Rattle.payload_log.proofs.backlog.Backlog.save.Goals as goal

pub invariant_of-self-2 : goal.invariant_of-self-2
invariant_of-self-2 c =
    let k = c.self.inside in
    let number = c.packet.inside.number in
    let b = backlog_of k.base k.sent k.cursor k.packets.items in
    let none : b.held ≡ [] = ap (λ (d : BacklogValue). d.held) c.self.view_is ∙ c.requires.none_held in
    let is : number ≡ c.args.packet.number = ap (λ (m : PacketValue). m.number) c.packet.view_is in
    let next = c.requires.next ∙ ap (λ (d : BacklogValue). d.sent + 1) (sym c.self.view_is) in
    elim c.if-self-number.branch [
      | then-self-number+else-is_err w ↦ subst (λ (z : Inside). IsBacklog (backlog_of z.base number z.cursor z.packets.items)) (sym w.self-inside-is)
          (is_backlog_kept k.base k.sent k.cursor number k.packets.items w.push_back_reserved.new.self.items c.args.packet c.self.invariant none next is
          c.packet.invariant.number_high w.if-self-number.true (subst (λ l. w.push_back_reserved.new.self.items ≡ l ++ c.args.packet ∷ []) w.reserve.ensures.items w.push_back_reserved.ensures.items))
      | else-self-number w ↦ subst (λ (z : Inside). IsBacklog (backlog_of z.base number z.cursor z.packets.items)) (sym w.self-inside-is)
          (is_backlog_let_go k.base k.sent k.cursor number k.packets.items c.args.packet c.self.invariant none next is
          c.packet.invariant.number_high w.if-self-number.false)
    ]
