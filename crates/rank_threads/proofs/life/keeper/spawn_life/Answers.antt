use Rattle.std.proofs.Common.{sym, subst}
use Rattle.rank_threads.specs.Keeping.{HasLived}
use Rattle.rank_threads.proofs.life.keeper.spawn_life.Goals as goal

-- the life is that of the station that came out of the parcel
pub returns-clause-lived : goal.returns-clause-lived
returns-clause-lived g c =
    subst (λ s. HasLived c.args.shared.now.program.now c.args.station s) (sym c.open.ensures) c.scoped.ensures.1.0
