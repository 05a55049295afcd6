use Rattle.std.proofs.Common.{◌≡◌, ◌-◌, ap, sym, ◌∙◌, drop, min}
use Rattle.payload_log.specs.Backlog.{BacklogValue, pruned}
use Rattle.payload_log.proofs.BacklogLemmas.{pruned_front}
use Rattle.payload_log.proofs.backlog.Backlog.prune.Goals as goal

pub returns-then-self-upto-clause-value : goal.returns-then-self-upto-clause-value
returns-then-self-upto-clause-value c =
    let k = c.self.inside in
    let kept : c.kept.result ≡ k.sent - k.base = c.kept.ensures ∙ ap (λ (b : BacklogValue). b.sent - b.base) (sym c.self.view_is) in
    let count : c.min-count.result ≡ min (k.sent - k.base) (c.args.upto - k.base) = c.min-count.ensures ∙ ap (λ n. min n (c.args.upto - k.base)) kept in
    pruned_front k.base k.sent k.cursor c.args.upto c.max-self-inside.result k.packets.items c.drop_front.new.packets.items c.if-self-upto.true
    c.max-self-inside.ensures (c.drop_front.ensures ∙ ap (λ n. drop n k.packets.items) count)
    ∙ ap (λ b. pruned b c.args.upto) c.self.view_is
