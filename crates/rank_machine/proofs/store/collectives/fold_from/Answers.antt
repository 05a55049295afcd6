use Rattle.std.proofs.Common.{◌≡◌, pos, Err, rules, sym, ap, ◌∙◌, to_z, of_z, w64}
use Rattle.std.specs.Prelude.{slice_index_or}
use Rattle.std.proofs.lemmas.Int.{to_z-of_z}
use Rattle.rank_machine.specs.Collectives.{combined, folded_from}
use Rattle.rank_machine.proofs.Folds.{step_faults}
use Rattle.rank_machine.proofs.store.collectives.fold_from.Goals as goal

pub returns-in-Err : goal.returns-in-Err
returns-in-Err c =
    let f = c.args.reduction in
    let values = c.args.values.now in
    let i = c.loop-value.value-index in
    let a = to_z w64 c.loop-value.result-bits in
    let x = slice_index_or values i (pos 0) in
    let same : to_z w64 (of_z w64 x) ≡ x = search rules in
    let first = to_z-of_z w64 c.args.first c.ranges.first in
    let gone : combined f a x ≡ Err c.in-Err.fault = ap (combined f a) (sym same) ∙ sym c.combined.ensures ∙ c.in-Err.is in
    step_faults f a c.args.first values i c.in-Err.fault c.loop-value-test.true gone (c.loop-value.invariant ∙ ap (λ z. folded_from f z values) first)
