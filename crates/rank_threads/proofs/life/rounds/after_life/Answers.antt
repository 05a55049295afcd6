use Rattle.std.proofs.Common.{subst}
use Rattle.rank_threads.specs.Seats.{IsSeated}
use Rattle.rank_threads.proofs.life.rounds.after_life.Goals as goal

-- the rank is behind the life that is over
pub returns-clause-moved : goal.returns-clause-moved
returns-clause-moved g c =
    λ first before. c.followed.ensures.moved first (subst (IsSeated c.args.shared.now.program.now first) c.in-Over.is before)
