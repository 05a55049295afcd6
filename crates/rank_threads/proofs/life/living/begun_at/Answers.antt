use Rattle.std.proofs.Common.{subst}
use Rattle.rank_threads.specs.Seats.{IsSeat}
use Rattle.rank_threads.proofs.life.living.begun_at.Goals as goal

-- the station is that between two lives
pub returns-in-Between : goal.returns-in-Between
returns-in-Between g c =
    λ old here. subst (λ s. IsSeat c.args.shared.now.program.now s c.begun.result) (subst (IsSeat c.args.shared.now.program.now old) c.in-Between.is here)
    c.begun.ensures
