use Rattle.std.proofs.Common.{◌≡◌, ◌≤◌, List, length, ap, arith}
use Rattle.explore.specs.Explored.{ExploredValue, FoundOutcomeValue, rank_outcomes}
use Rattle.runner.proofs.Determinism.{alike_all}
use Rattle.runner.proofs.Written.{as_many}
use Rattle.runner.proofs.commands.determinism.two_that_differ.Goals as goal

-- all were compared
pub returns-clause-none : goal.returns-clause-none
returns-clause-none c =
    let over = c.loop-index-test.false in
    let value = ap (λ (xs : List FoundOutcomeValue). length xs) c.as_slice-outcomes.ensures.value in
    let many = as_many c.found.inside.outcomes.items in
    let seen : length (rank_outcomes c.found.inside.outcomes.items) ≡ length c.args.found.now.outcomes =
    ap (λ (e : ExploredValue). length e.outcomes) c.found.view_is in
    let all : length c.args.found.now.outcomes ≤ c.loop-index.index = omega (arith, over, value, many, seen) in
    λ _. alike_all c.args.found.now.outcomes c.loop-index.index c.loop-index.invariant all
