use Rattle.std.proofs.Common.{subst}
use Rattle.rank_threads.specs.Keeping.{HasLived}
use Rattle.rank_threads.proofs.life.keeper.live_in_parcel.Goals as goal

-- the life is that of the station that was in the parcel
pub returns-clause-lived : goal.returns-clause-lived
returns-clause-lived g c =
    subst (λ s. HasLived c.args.shared.now.program.now s c.run_life-station.result) c.open.ensures c.run_life-station.ensures.lived
