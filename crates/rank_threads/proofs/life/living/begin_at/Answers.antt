use Rattle.std.proofs.Common.{sym, subst}
use Rattle.rank_threads.specs.Seats.{IsSeat}
use Rattle.rank_threads.proofs.life.living.begin_at.Goals as goal

-- whoever was taken away has begun to live here
pub returns : goal.returns
returns g c =
    λ old here. subst (IsSeat c.args.shared.now.program.now old) (sym c.put.ensures)
    (c.begun_at.ensures old (subst (IsSeat c.args.shared.now.program.now old) (sym c.replace-taken.ensures.value) here))
