use Rattle.std.proofs.Common.{◌≡◌, ◌-◌, ◌≤◌, true, refl, ap, subst, slice_index_or, slice_set, arith}
use Rattle.std.proofs.lemmas.Bool.{true_from_ne_false}
use Rattle.std.specs.Prelude.{slice_index}
use Rattle.crash_free.specs.Runs.{Passed}
use Rattle.explore.proofs.Counting.{counts_further, counts_spend}
use Rattle.explore.proofs.Within.{has_steps}
use Rattle.explore.proofs.taking.repeat.Goals as goal

pub make-requires-clause-at : goal.make-requires-clause-at
make-requires-clause-at c =
    let same : c.passed.inside.rank ≡ c.args.passed.now.rank = ap (λ (p : Passed). p.rank) c.passed.view_is in
    let yes : c.comes_to_act.result ≡ true =
    true_from_ne_false c.comes_to_act.result
    (λ no.
    has_steps c.args.sim.now c.comes_to_act.new.sim c.comes_to_act.new.left c.requires.enough.0 c.args.passed.now c.comes_to_act.ensures.alike
    c.comes_to_act.ensures.run c.requires.may.0 (c.comes_to_act.ensures.counts c.requires.enough.0 c.requires.enough.1) c.requires.enough.2
    (subst (λ k. slice_index c.comes_to_act.new.left k ≡ 0) same (c.comes_to_act.ensures.none no))) in
    c.comes_to_act.ensures.at yes

pub overflow_sub-left : goal.overflow_sub-left
overflow_sub-left c =
    let same : c.passed.inside.rank ≡ c.args.passed.now.rank = ap (λ (p : Passed). p.rank) c.passed.view_is in
    let yes : c.comes_to_act.result ≡ true =
    true_from_ne_false c.comes_to_act.result
    (λ no.
    has_steps c.args.sim.now c.comes_to_act.new.sim c.comes_to_act.new.left c.requires.enough.0 c.args.passed.now c.comes_to_act.ensures.alike
    c.comes_to_act.ensures.run c.requires.may.0 (c.comes_to_act.ensures.counts c.requires.enough.0 c.requires.enough.1) c.requires.enough.2
    (subst (λ k. slice_index c.comes_to_act.new.left k ≡ 0) same (c.comes_to_act.ensures.none no))) in
    let some = c.comes_to_act.ensures.left yes in
    let few : 1 ≤ slice_index c.comes_to_act.new.left c.passed.inside.rank = omega (arith, some) in
    rw c.from.ensures few

pub returns-clause-counts : goal.returns-clause-counts
returns-clause-counts c =
    let rank = c.passed.inside.rank in
    let before = c.comes_to_act.new.left in
    let now = slice_set before c.from.result (slice_index_or before c.from.result 0 - 1) in
    let less : now ≡ slice_set before rank (slice_index before rank - 1) = rw c.from.ensures refl in
    let same : c.passed.inside.rank ≡ c.args.passed.now.rank = ap (λ (p : Passed). p.rank) c.passed.view_is in
    let yes : c.comes_to_act.result ≡ true =
    true_from_ne_false c.comes_to_act.result
    (λ no.
    has_steps c.args.sim.now c.comes_to_act.new.sim c.comes_to_act.new.left c.requires.enough.0 c.args.passed.now c.comes_to_act.ensures.alike
    c.comes_to_act.ensures.run c.requires.may.0 (c.comes_to_act.ensures.counts c.requires.enough.0 c.requires.enough.1) c.requires.enough.2
    (subst (λ k. slice_index c.comes_to_act.new.left k ≡ 0) same (c.comes_to_act.ensures.none no))) in
    let some = c.comes_to_act.ensures.left yes in
    let few : 1 ≤ slice_index before rank = omega (arith, some) in
    counts_further c.args.sim.now c.comes_to_act.new.sim c.make.new.sim c.args.left.now before now c.comes_to_act.ensures.counts
    (counts_spend c.comes_to_act.new.sim rank 1 c.make.new.sim before now c.in_ok-make.ensures.spends few less)
