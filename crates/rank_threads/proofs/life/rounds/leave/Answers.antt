use Rattle.std.proofs.Common.{◌≡◌, true, sym, subst}
use Rattle.rank_threads.proofs.SeatLemmas.{moves_on}
use Rattle.rank_threads.specs.Seats.{IsSeated, is_gone}
use Rattle.rank_threads.proofs.life.rounds.leave.Goals as goal

-- the rank is where it was, step by step
pub returns-clause-kept : goal.returns-clause-kept
returns-clause-kept g c =
    λ first before. subst (IsSeated c.args.shared.now.program.now first) (sym c.put.ensures)
    (c.told.ensures.moved c.args.shared.now.program.now first
    (c.after_life-idle.ensures.moved first
    (moves_on c.args.shared.now.program.now c.replace-taken.result c.ended-ended.result (c.ended-ended.ensures.kept c.args.shared.now.program.now) first
    (subst (IsSeated c.args.shared.now.program.now first) (sym c.replace-taken.ensures.value) before))))

-- and at last it is gone
pub returns-clause-gone : goal.returns-clause-gone
returns-clause-gone g c =
    λ first before. subst (λ s. is_gone s ≡ true) (sym c.put.ensures)
    (c.told.ensures.gone c.args.shared.now.program.now first
    (c.after_life-idle.ensures.moved first
    (moves_on c.args.shared.now.program.now c.replace-taken.result c.ended-ended.result (c.ended-ended.ensures.kept c.args.shared.now.program.now) first
    (subst (IsSeated c.args.shared.now.program.now first) (sym c.replace-taken.ensures.value) before))))
