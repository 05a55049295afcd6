use Rattle.std.proofs.Common.{◌≤◌, length, ap, subst, arith}
use Rattle.bare_world.specs.World.{WorldValue}
use Rattle.bare_world.specs.RunIndex.{IsNext}
use Rattle.bare_world.proofs.Again.EachActIsMade.{made_before, next_ahead, new_count, counted_set, low_count}
use Rattle.bare_world.proofs.bare_world.BareWorld.make.Goals as goal

-- src/bare_world/way/making.rt
pub overflow_add-index_mut : goal.overflow_add-index_mut
overflow_add-index_mut g c =
    let l = c.rank_at-rank.ensures.rank in
    let a = c.self.invariant.1 in
    let b = c.self.invariant.2 in
    let e = ap (λ (z : WorldValue). length z.ranks) c.self.view_is in
    let m : c.index_mut.result.now ≤ 268435455 =
    low_count c.args.self.now c.args.index _ _ _ _ c.requires.ready c.from.ensures (omega (arith, l, a, b, e)) c.requires.counted c.index_mut.ensures.value in
    grind (arith, m)

-- src/bare_world/way/making.rt
pub returns-in_ok-step_to-clause-counted : goal.returns-in_ok-step_to-clause-counted
returns-in_ok-step_to-clause-counted g c =
    let l = c.rank_at-rank.ensures.rank in
    let a = c.self.invariant.1 in
    let b = c.self.invariant.2 in
    let e = ap (λ (z : WorldValue). length z.ranks) c.self.view_is in
    counted_set _ c.args.index _ _ _ c.args.self.now.run _ c.from.ensures (omega (arith, l, a, b, e))
    (subst (λ (z : WorldValue). IsNext z.run c.args.index c.rank_at-rank.result) c.self.view_is c.rank_at-rank.ensures.next) c.requires.counted
    c.index_mut.ensures.value

-- src/bare_world/way/making.rt
pub invariant_of-ahead : goal.invariant_of-ahead
invariant_of-ahead g c =
    let l = c.rank_at-rank.ensures.rank in
    let a = c.self.invariant.1 in
    let b = c.self.invariant.2 in
    let e = ap (λ (z : WorldValue). length z.ranks) c.self.view_is in
    let next = subst (λ (z : WorldValue). IsNext z.run c.args.index c.rank_at-rank.result) c.self.view_is c.rank_at-rank.ensures.next in
    let count = new_count _ c.args.index _ _ _ _ _ c.args.self.now.run _ c.from.ensures c.from-2.ensures (omega (arith, l, a, b, e)) c.requires.counted
    c.index_mut.ensures.value c.index-count.ensures in
    record {
      steps =
          next_ahead c.args.self.now c.args.index c.rank_at-rank.result _ c.view.result g.K.Stand.machine next count (omega (arith, l, a, b, e)) c.view.ensures
          c.requires.ready c.if-view-count.true (λ v live. c.requires.machine c.rank_at-rank.result v next live);
    }

-- src/bare_world/way/making.rt
pub returns-else-view-count-clause-made : goal.returns-else-view-count-clause-made
returns-else-view-count-clause-made g c =
    let l = c.rank_at-rank.ensures.rank in
    let a = c.self.invariant.1 in
    let b = c.self.invariant.2 in
    let e = ap (λ (z : WorldValue). length z.ranks) c.self.view_is in
    let next = subst (λ (z : WorldValue). IsNext z.run c.args.index c.rank_at-rank.result) c.self.view_is c.rank_at-rank.ensures.next in
    let count = new_count _ c.args.index _ _ _ _ _ c.args.self.now.run _ c.from.ensures c.from-2.ensures (omega (arith, l, a, b, e)) c.requires.counted
    c.index_mut.ensures.value c.index-count.ensures in
    made_before c.args.self.now c.args.index c.rank_at-rank.result _ c.view.result next count (omega (arith, l, a, b, e)) c.view.ensures c.requires.ready
    c.if-view-count.false
