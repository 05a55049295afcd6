use Rattle.std.proofs.Common.{◌<◌, ◌+◌, ◌∙◌, length, slice_set, get_or, sym, ap, subst, arith}
use Rattle.std.proofs.lemmas.Option.{slice_get-get_or, slice_get_within}
use Rattle.audit.specs.Audits.{GoesTo}
use Rattle.audit.specs.declared.auditor.Auditor.{Auditor}
use Rattle.audit.proofs.Steps.{goes_on}
use Rattle.audit.proofs.Rounds.{Turned, turned_one}
use Rattle.audit.proofs.auditor.Auditor.round.Goals.{then-place-left+in_ok-after, else-place-left}
use Rattle.audit.proofs.auditor.Auditor.round.Goals as goal

pub loop-rank-preserved : goal.loop-rank-preserved
loop-rank-preserved c = elim c.if-place-left.branch [
  | then-place-left+in_ok-after w ↦
      let o = c.args.goal.now.outcome.now in
      let at = c.from-place.ensures in
      let place = w.if-place-left.true in
      let low : c.loop-rank.rank < length c.loop-rank.left = omega (arith, at, place) in
      let read = ap (λ k. get_or c.loop-rank.left k 0) at in
      let turned = turned_one o c.args.left.now c.loop-rank.left c.args.self.now.sim c.loop-rank.self.sim w.go_on.new.self.sim c.loop-rank.rank
      (get_or c.loop-rank.left c.loop-rank.rank 0) w.in_ok-after.after c.loop-rank.moved c.if-place-left.moved c.loop-rank.invariant.turned
      (slice_get-get_or c.loop-rank.left c.loop-rank.rank 0 low) (rw read at w.in_ok-after.ensures.plays) (rw read at w.in_ok-after.ensures.few)
      (rw read at w.in_ok-after.ensures.same) (rw read at w.in_ok-after.ensures.stuck) (rw read at w.moved-is) in
      let goes = goes_on c.args.self.now.sim c.loop-rank.self.sim w.go_on.new.self.sim c.loop-rank.self.traces.items w.go_on.new.self.traces.items
      c.loop-rank.invariant.goes w.in_ok-after.ensures.goes in
      let lists = w.left-is ∙ ap (λ k. slice_set c.loop-rank.left k w.in_ok-after.after) at in
      record {
        goes = subst (λ (a : Auditor). GoesTo c.args.self.now.sim a.sim a.traces.items) (sym w.self-is) goes;
        turned = subst (λ (a : Auditor). Turned o c.args.left.now c.if-place-left.left c.args.self.now.sim a.sim (c.loop-rank.rank + 1) c.if-place-left.moved)
            (sym w.self-is)
            (subst (λ ks. Turned o c.args.left.now ks c.args.self.now.sim w.go_on.new.self.sim (c.loop-rank.rank + 1) c.if-place-left.moved)
            (sym lists) turned);
      }
  | else-place-left w ↦
      let place = c.from-place.ensures in
      let ranks = c.ranks-rank-end.ensures.value in
      let low = c.loop-rank-test.true in
      let past = w.if-place-left.false in
      let width = c.loop-rank.invariant.turned.width in
      let wide = c.requires.width in
      absurd (omega (arith, place, ranks, low, past, width, wide))
]

pub returns-clause-stuck : goal.returns-clause-stuck
returns-clause-stuck c = λ none r k there some.
    let low = slice_get_within c.loop-rank.left r k there in
    let width = c.loop-rank.invariant.turned.width in
    let wide = c.requires.width in
    let ranks = c.ranks-rank-end.ensures.value in
    let past = c.loop-rank-test.false in
    c.loop-rank.invariant.turned.stuck none r k (omega (arith, low, width, wide, ranks, past)) there some
