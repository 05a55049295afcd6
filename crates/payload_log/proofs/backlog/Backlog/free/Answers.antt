use Rattle.std.proofs.Common.{◌+◌, ◌<◌, length, ap, sym, subst, ◌∙◌, refl}
use Rattle.payload_log.specs.Backlog.{BacklogValue, IsBacklog, backlog_of, freed}
use Rattle.payload_log.specs.declared.backlog.Backlog.TheInside.{Inside}
use Rattle.payload_log.proofs.BacklogLemmas.{is_backlog_freed, freed_in_place, freed_at_front}
use Rattle.payload_log.proofs.backlog.Backlog.free.Goals.{then-self, else-self}
use Rattle.payload_log.proofs.backlog.Backlog.free.Goals as goal

-- the fields after the step show what is freed
shows : goal.returns-clause-value
shows c =
    let in_view : (z : Inside) → BacklogValue = λ z. backlog_of z.base (z.sent + 1) z.cursor z.packets.items in
    let k = c.self.inside in
    let b = backlog_of k.base k.sent k.cursor k.packets.items in
    let some : 0 < length b.held = subst (λ (d : BacklogValue). 0 < length d.held) (sym c.self.view_is) c.requires in
    elim c.if-self.branch [
      | then-self w ↦ ap in_view w.self-inside-is ∙ ap (backlog_of k.base (k.sent + 1) k.cursor) w.drop_front.ensures
          ∙ freed_at_front k.base k.sent k.cursor k.packets.items b.held refl some c.self.invariant.next w.if-self.true ∙ ap freed c.self.view_is
      | else-self w ↦ ap in_view w.self-inside-is
          ∙ freed_in_place k.base k.sent k.cursor k.packets.items b.held refl some c.self.invariant.next w.if-self.false ∙ ap freed c.self.view_is
    ]

pub returns-clause-value : goal.returns-clause-value
returns-clause-value c = shows c

pub invariant_of-self : goal.invariant_of-self
invariant_of-self c =
    let k = c.self.inside in
    let b = backlog_of k.base k.sent k.cursor k.packets.items in
    let some : 0 < length b.held = subst (λ (d : BacklogValue). 0 < length d.held) (sym c.self.view_is) c.requires in
    subst IsBacklog (sym (shows c ∙ ap freed (sym c.self.view_is))) (is_backlog_freed b b.held refl some c.self.invariant)
