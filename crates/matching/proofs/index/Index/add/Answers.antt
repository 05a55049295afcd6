use Rattle.std.proofs.Common.{◌≡◌, ◌<◌, length, None, arith, take, drop, sym, ap, ◌∙◌}
use Rattle.std.specs.Prelude.{◌==◌, ◌&&◌, ◌||◌}
use Rattle.std.specs.Ordering.{is_eq}
use Rattle.std.specs.List.{list_any}
use Rattle.std.proofs.lemmas.Bool.{eqb-true}
use Rattle.std.proofs.lemmas.List.Folds.{list_any_more}
use Rattle.matching.specs.declared.packet.Context.TheVariants.{PointToPoint}
use Rattle.matching.specs.declared.label.Label.{Label}
use Rattle.matching.specs.declared.label.Label.TheVariants.{Selected}
use Rattle.matching.specs.Label.{names}
use Rattle.matching.specs.Index.{has, label_cmp, place_cmp}
use Rattle.matching.proofs.Labels.{names_is}
use Rattle.matching.proofs.IndexLemmas.{entry_is, added, undone, any_of_parts}
use Rattle.matching.proofs.index.Index.add.Goals as goal

pub loop-label-preserved : goal.loop-label-preserved
loop-label-preserved c = λ label p.
    let items = c.labels_of-label-items.result in
    let within : c.loop-label.label-index < length items = rw c.labels_of-label-items.ensures c.loop-label-test.true in
    added _ _ _ _ _ _ _ _ (c.in_default.ensures.updates.0 (label, p)) (entry_is _ label c.args.place p) (c.loop-label.invariant label p)
    (list_any_more (λ x. is_eq (label_cmp x label)) items c.loop-label.label-index
    (Selected (record { context = PointToPoint; source = None; tag = None })) within)

pub returns-clause-ok : goal.returns-clause-ok
returns-clause-ok c = λ label p.
    let items = c.labels_of-label-items.result in
    let all : c.loop-label.label-index ≡ 5 = omega (arith, c.loop-label.auto.label-index-end, c.loop-label-test.false) in
    let test = λ (x : Label). is_eq (label_cmp x label) in
    let whole : list_any test (take c.loop-label.label-index items) ≡ names label c.args.packet.now =
    rw (all, c.labels_of-label-items.ensures) (names_is label c.args.packet.now) in
    c.loop-label.invariant label p ∙ ap (λ b. has c.args.self.now.places label p || ((c.args.place == p) && b)) whole

pub returns-in-Err-clause-err : goal.returns-in-Err-clause-err
returns-in-Err-clause-err c = λ label p.
    let items = c.labels_of-label-items.result in
    let test = λ (x : Label). is_eq (label_cmp x label) in
    let whole : names label c.args.packet.now ≡ (list_any test (take c.loop-label.label-index items) || list_any test (drop c.loop-label.label-index items)) =
    sym (names_is label c.args.packet.now) ∙ ap (list_any test) (sym c.labels_of-label-items.ensures) ∙ any_of_parts test c.loop-label.label-index items in
    let same : has c.insert.new.self label p ≡ has c.loop-label.self.places label p =
    ap (list_any (λ k. is_eq (place_cmp (label, p) k))) c.in-Err.ensures.err in
    undone _ _ _ _ _ _ _ (λ at. rw (← eqb-true c.args.place p at) (c.requires.free label)) (c.remove.ensures label p)
    (same ∙ c.loop-label.invariant label p) whole
