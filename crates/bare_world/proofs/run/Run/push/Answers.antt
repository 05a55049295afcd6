use Rattle.std.proofs.Common.{◌<◌, ◌++◌, ◌∷◌, [], sym, ap, subst, ◌∙◌}
use Rattle.crash_free.specs.Runs.{Passed}
use Rattle.bare_world.specs.RunIndex.{RunValue}
use Rattle.bare_world.proofs.Runs.Index.{pushed}
use Rattle.bare_world.proofs.run.Run.push.Goals as goal

pub invariant_of-self-2 : goal.invariant_of-self-2
invariant_of-self-2 c =
    let low = subst (λ (v : RunValue). c.args.passed.rank < v.ranks) (sym c.self.view_is) c.requires in
    let rank = c.from.ensures ∙ ap (λ (p : Passed). p.rank) c.passed.view_is in
    let longer = c.push_reserved.ensures.items ∙ ap (λ acts. acts ++ c.args.passed ∷ []) c.reserve.ensures.items in
    pushed _ _ _ c.args.passed _ _ c.from.result c.index_mut.result.now c.note.new.self c.self.invariant low rank
    (ap (λ (p : Passed). p.act) c.passed.view_is) c.index_mut.ensures.value longer c.in_ok-note.ensures.ok
