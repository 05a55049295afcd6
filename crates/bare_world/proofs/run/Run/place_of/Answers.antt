use Rattle.std.proofs.Common.{◌≡◌, ◌<◌, ℕ, IfSome, IfNone, Some, sym, subst}
use Rattle.bare_world.specs.RunIndex.{RunValue, clock_at}
use Rattle.bare_world.proofs.Runs.Index.{sent_there, placed, unplaced}
use Rattle.bare_world.proofs.run.Run.place_of.Goals as goal

pub place_of-requires-clause-there : goal.place_of-requires-clause-there
place_of-requires-clause-there c =
    let source = subst (λ (v : RunValue). c.args.source < v.ranks) (sym c.self.view_is) c.requires.source in
    let dest = subst (λ (v : RunValue). c.args.dest < v.ranks) (sym c.self.view_is) c.requires.dest in
    (sent_there _ _ _ c.args.source c.args.dest c.from.result c.index.result.now c.self.invariant source dest c.from.ensures c.index.ensures).0

pub place_of-requires-clause-rises : goal.place_of-requires-clause-rises
place_of-requires-clause-rises c =
    let source = subst (λ (v : RunValue). c.args.source < v.ranks) (sym c.self.view_is) c.requires.source in
    let dest = subst (λ (v : RunValue). c.args.dest < v.ranks) (sym c.self.view_is) c.requires.dest in
    (sent_there _ _ _ c.args.source c.args.dest c.from.result c.index.result.now c.self.invariant source dest c.from.ensures c.index.ensures).2

pub returns-clause-some : goal.returns-clause-some
returns-clause-some c =
    let source = subst (λ (v : RunValue). c.args.source < v.ranks) (sym c.self.view_is) c.requires.source in
    let dest = subst (λ (v : RunValue). c.args.dest < v.ranks) (sym c.self.view_is) c.requires.dest in
    let there = sent_there _ _ _ c.args.source c.args.dest c.from.result c.index.result.now c.self.invariant source dest c.from.ensures c.index.ensures in
    subst (λ (v : RunValue). IfSome c.place_of.result (λ j. clock_at v.acts c.args.source c.args.dest j ≡ Some c.args.clock)) c.self.view_is
    (placed _ c.args.source c.args.dest c.args.clock c.from-2.result _ c.place_of.result there.1 c.from-2.ensures c.place_of.ensures.some)

pub returns-clause-none : goal.returns-clause-none
returns-clause-none c =
    let source = subst (λ (v : RunValue). c.args.source < v.ranks) (sym c.self.view_is) c.requires.source in
    let dest = subst (λ (v : RunValue). c.args.dest < v.ranks) (sym c.self.view_is) c.requires.dest in
    let there = sent_there _ _ _ c.args.source c.args.dest c.from.result c.index.result.now c.self.invariant source dest c.from.ensures c.index.ensures in
    subst (λ (v : RunValue). IfNone c.place_of.result ((j : ℕ) → clock_at v.acts c.args.source c.args.dest j ≡ Some c.args.clock → ⊥)) c.self.view_is
    (unplaced _ c.args.source c.args.dest c.args.clock c.from-2.result _ c.place_of.result there.1 c.from-2.ensures c.place_of.ensures.none)
