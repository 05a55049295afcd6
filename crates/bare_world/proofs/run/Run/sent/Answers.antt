use Rattle.std.proofs.Common.{◌≡◌, ◌<◌, length, sym, ap, subst, ◌∙◌}
use Rattle.std.proofs.lemmas.List.{length-map}
use Rattle.crash_free.specs.Runs.{sent}
use Rattle.bare_world.specs.RunIndex.{RunValue}
use Rattle.bare_world.proofs.Runs.Index.{sent_there}
use Rattle.bare_world.proofs.run.Run.sent.Goals as goal

pub sent-requires : goal.sent-requires
sent-requires c =
    let source = subst (λ (v : RunValue). c.args.source < v.ranks) (sym c.self.view_is) c.requires.source in
    let dest = subst (λ (v : RunValue). c.args.dest < v.ranks) (sym c.self.view_is) c.requires.dest in
    (sent_there _ _ _ c.args.source c.args.dest c.from.result c.index.result.now c.self.invariant source dest c.from.ensures c.index.ensures).0

pub returns : goal.returns
returns c =
    let source = subst (λ (v : RunValue). c.args.source < v.ranks) (sym c.self.view_is) c.requires.source in
    let dest = subst (λ (v : RunValue). c.args.dest < v.ranks) (sym c.self.view_is) c.requires.dest in
    let there = sent_there _ _ _ c.args.source c.args.dest c.from.result c.index.result.now c.self.invariant source dest c.from.ensures c.index.ensures in
    subst (λ (v : RunValue). c.sent.result ≡ length (sent v.acts c.args.source c.args.dest)) c.self.view_is
    (c.sent.ensures ∙ ap length there.1 ∙ length-map _ _)
