use Rattle.std.proofs.Common.{refl, ap, subst}
use Rattle.rank_threads.proofs.SeatLemmas.{living_same, place_same}
use Rattle.rank_threads.specs.Seats.{IsSeat}
use Rattle.rank_threads.proofs.life.living.wait_if.Goals as goal

-- only idle turns were counted
pub returns-in-Living : goal.returns-in-Living
returns-in-Living c =
    λ program old here. living_same program old c.in-Living.life _ (subst (IsSeat program old) c.in-Living.is here)
    (place_same c.in-Living.life, ap (λ t. t.crashes) c.count_wait.ensures) refl
