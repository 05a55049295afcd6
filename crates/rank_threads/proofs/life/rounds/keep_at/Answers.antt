use Rattle.std.proofs.Common.{sym, subst}
use Rattle.rank_threads.specs.Seats.{IsSeated}
use Rattle.rank_threads.proofs.life.rounds.keep_at.Goals as goal

-- the keeper did its part for whoever was taken away
pub returns : goal.returns
returns g c =
    λ first before. subst (IsSeated c.args.shared.now.program.now first) (sym c.put.ensures)
    (c.kept.ensures first (subst (IsSeated c.args.shared.now.program.now first) (sym c.replace-taken.ensures.value) before))
