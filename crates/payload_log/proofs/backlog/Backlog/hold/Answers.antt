use Rattle.std.proofs.Common.{◌≤◌, ap, sym, subst, ◌∙◌}
use Rattle.std.specs.Prelude.{is_ok}
use Rattle.limits.specs.Limits.{greatest_clock}
use Rattle.matching.specs.PacketValue.{PacketValue}
use Rattle.payload_log.specs.Backlog.{next_number}
use Rattle.payload_log.proofs.BacklogLemmas.{is_backlog_pushed}
use Rattle.payload_log.proofs.backlog.Backlog.hold.Goals as goal

pub invariant_of-self : goal.invariant_of-self
invariant_of-self c =
    is_backlog_pushed c.self.inside.base c.self.inside.sent c.self.inside.cursor c.self.inside.packets.items c.push_back.new.self.items
    c.args.packet (is_ok c.push_back.result) c.self.invariant
    (c.requires ∙ ap next_number (sym c.self.view_is))
    (subst (λ (m : PacketValue). m.number ≤ greatest_clock) c.packet.view_is c.packet.invariant.number_high) c.push_back.ensures.items
