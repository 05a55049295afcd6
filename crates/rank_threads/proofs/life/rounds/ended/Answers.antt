use Rattle.std.proofs.Common.{inl, refl, subst}
use Rattle.rank_threads.proofs.SeatLemmas.{life_over, place_same}
use Rattle.rank_threads.specs.Seats.{IsSeat}
use Rattle.rank_threads.specs.declared.life.ending.Ending.TheVariants as ending
use Rattle.rank_threads.specs.declared.life.ending.Why.TheVariants as why
use Rattle.rank_threads.proofs.life.rounds.ended.Goals as goal

-- the life is over, as the rank was told to leave
pub returns-in-Living-clause-kept : goal.returns-in-Living-clause-kept
returns-in-Living-clause-kept c =
    λ program old here. life_over program old c.end_life.result c.in-Living.life c.in-Living.life (ending.Left (why.Told c.args.stopped))
    (subst (IsSeat program old) c.in-Living.is here) (place_same c.in-Living.life) (inl refl) tt refl c.end_life.ensures.end c.end_life.ensures.down
    c.end_life.ensures.plan c.end_life.ensures.tally c.end_life.ensures.stood c.end_life.ensures.same
