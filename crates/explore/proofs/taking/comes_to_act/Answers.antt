use Rattle.std.proofs.Common.{◌≡◌, ◌-◌, ◌≤◌, refl, slice_index_or, slice_set}
use Rattle.std.specs.Prelude.{slice_index}
use Rattle.explore.proofs.Counting.{counts_spend, spends_inside}
use Rattle.explore.proofs.taking.comes_to_act.Goals as goal

pub returns-clause-counts : goal.returns-clause-counts
returns-clause-counts c =
    let now = slice_set c.args.left.now c.from-2.result (slice_index_or c.args.left.now c.from-2.result 0 - c.stride-inside.result) in
    let less : now ≡ slice_set c.args.left.now c.args.rank (slice_index c.args.left.now c.args.rank - c.stride-inside.result) =
    rw c.from-2.ensures refl in
    let few : c.stride-inside.result ≤ slice_index c.args.left.now c.args.rank = rw c.from.ensures at c.stride-inside.ensures.few in
    counts_spend c.args.sim.now c.args.rank c.stride-inside.result c.stride-inside.new.self c.args.left.now now
    (spends_inside c.args.sim.now c.args.rank c.stride-inside.result c.stride-inside.new.self c.stride-inside.ensures.inside) few less
