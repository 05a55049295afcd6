use Rattle.std.proofs.Common.{subst}
use Rattle.explore.specs.Explored.{listed_left, rank_outcomes}
use Rattle.explore.specs.Found.{AreGrouped}
use Rattle.explore.proofs.Grouping.{are_grouped}
use Rattle.explore.proofs.found.Found.into_outcomes.Goals as goal

pub returns : goal.returns
returns c =
    subst (λ es. AreGrouped es (rank_outcomes c.self.inside.outcomes.items) (listed_left c.self.inside.outcomes.items)) c.self.view_is
    (are_grouped c.self.inside.outcomes.items c.self.inside.by_hash c.self.invariant)
