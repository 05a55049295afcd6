use Rattle.rank_threads.specs.Keeping.{told}
use Rattle.rank_threads.proofs.life.rounds.begun_unless_told.Goals as goal

-- the rank was told to leave
pub returns-in-Some : goal.returns-in-Some
returns-in-Some g c = (c.leave_unfinished.ensures.same, told c.leave_unfinished.ensures.told)
