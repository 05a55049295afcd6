use Rattle.std.proofs.Common.{◌<◌, length, sym, ap, subst, ◌∙◌}
use Rattle.crash_free.specs.Runs.{history}
use Rattle.bare_world.specs.RunIndex.{RunValue}
use Rattle.bare_world.proofs.Runs.Index.{count_there}
use Rattle.bare_world.proofs.run.Run.count.Goals as goal

pub returns : goal.returns
returns c =
    let low = subst (λ (v : RunValue). c.args.rank < v.ranks) (sym c.self.view_is) c.requires in
    c.count.ensures ∙ count_there _ _ _ c.args.rank c.from.result c.index.result.now c.self.invariant low c.from.ensures c.index.ensures
    ∙ ap (λ (v : RunValue). length (history v.acts c.args.rank)) c.self.view_is
