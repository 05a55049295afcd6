use Rattle.std.proofs.Common.{refl}
use Rattle.explore.proofs.Sending.{received_by, not_received_by}
use Rattle.explore.proofs.released.are_received_by.Goals as goal

pub returns-in-None-clause-yes : goal.returns-in-None-clause-yes
returns-in-None-clause-yes c = λ e.
    received_by c.args.sim.now.run c.args.rank c.args.receiver _ (refl, refl, refl) (rw c.in-None.is at c.eligible.ensures.none refl)

pub returns-in-Some-clause-no : goal.returns-in-Some-clause-no
returns-in-Some-clause-no c = λ e.
    not_received_by c.args.sim.now.run c.args.rank c.args.receiver _ _ (refl, refl, refl) (rw c.in-Some.is at c.eligible.ensures.some)
