use Rattle.std.proofs.Common.{subst}
use Rattle.explore.specs.Explored.{FoundOutcomeValue}
use Rattle.explore.specs.Outcomes.{IsAmong}
use Rattle.explore.proofs.Grouping.{added_there, had_there, one_there}
use Rattle.explore.proofs.found.add_left.Goals as goal

pub returns-then-has_left-clause-ok : goal.returns-then-has_left-clause-ok
returns-then-has_left-clause-ok c =
    had_there c.args.place c.args.left.items c.args.outcomes.now.items c.index-outcome.result.now _ c.requires c.index-outcome.ensures
    (rw c.deref.ensures.value at c.has_left.ensures.yes c.if-has_left.true)

pub returns-clause-ok : goal.returns-clause-ok
returns-clause-ok c =
    added_there c.add_left.result c.args.place c.args.left.items c.args.outcomes.now.items c.index_mut-outcome.result.now c.add_left.new.self _ c.requires
    c.index_mut-outcome.ensures.value
    (λ a. (rw c.deref.ensures.value at c.has_left.ensures.no c.if-has_left.false)
    (subst (λ (z : FoundOutcomeValue). IsAmong z.left c.args.left.items)
    (one_there c.args.outcomes.now.items c.args.place c.index_mut-outcome.result.now _ c.index-outcome.result.now _ c.requires
    c.index_mut-outcome.ensures.value c.index-outcome.ensures) a))
    c.add_left.ensures.ok
