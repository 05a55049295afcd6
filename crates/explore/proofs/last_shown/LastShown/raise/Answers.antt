use Rattle.std.proofs.Common.{◌<◌, subst}
use Rattle.explore.proofs.LastShown.{raised}
use Rattle.explore.proofs.last_shown.LastShown.raise.Goals as goal

pub returns-in_ok-insert : goal.returns-in_ok-insert
returns-in_ok-insert c =
    raised c.args.self.now.last c.insert.new.self c.args.rank c.args.source c.args.place
    (subst (λ z. z < c.args.place) c.last_of.ensures c.if-last_of-place.true) c.in_ok-insert.ensures.updates.0 c.in_ok-insert.ensures.updates.1
