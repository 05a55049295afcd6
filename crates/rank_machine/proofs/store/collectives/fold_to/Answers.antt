use Rattle.std.proofs.Common.{◌≡◌, ◌-◌, pos, Ok, Err, length, take, drop, rules, sym, ap, ◌∙◌, to_z, of_z, w64}
use Rattle.std.specs.Prelude.{slice_index_or}
use Rattle.rank_machine.specs.Collectives.{combined, folded_from}
use Rattle.rank_machine.proofs.Folds.{last_follows, fault_before}
use Rattle.rank_machine.proofs.store.collectives.fold_to.Goals as goal

pub returns-in-Ok : goal.returns-in-Ok
returns-in-Ok c =
    let f = c.args.reduction in
    let before = c.args.before.now in
    let x = slice_index_or before 0 (pos 0) in
    let rest = take (length before - 1) (drop 1 before) in
    let same : to_z w64 (of_z w64 x) ≡ x = search rules in
    let folds : folded_from f x rest ≡ Ok c.in-Ok.value = ap (λ z. folded_from f z rest) (sym same) ∙ sym c.fold_from.ensures ∙ c.in-Ok.is in
    let both : c.combined.result ≡ combined f c.in-Ok.value c.args.own = search rules in
    both ∙ last_follows f before c.args.own c.in-Ok.value c.in-len1-up.len_at_least folds

pub returns-in-Err : goal.returns-in-Err
returns-in-Err c =
    let f = c.args.reduction in
    let before = c.args.before.now in
    let x = slice_index_or before 0 (pos 0) in
    let rest = take (length before - 1) (drop 1 before) in
    let same : to_z w64 (of_z w64 x) ≡ x = search rules in
    let folds : folded_from f x rest ≡ Err c.in-Err.fault = ap (λ z. folded_from f z rest) (sym same) ∙ sym c.fold_from.ensures ∙ c.in-Err.is in
    fault_before f before c.args.own c.in-Err.fault c.in-len1-up.len_at_least folds
