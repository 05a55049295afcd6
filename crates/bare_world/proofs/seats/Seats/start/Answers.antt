use Rattle.bare_world.proofs.Lists.NewRanks.{no_images}
use Rattle.bare_world.proofs.seats.Seats.start.Goals as goal

-- src/seats.rt
pub returns-clause-images : goal.returns-clause-images
returns-clause-images c = no_images _ c.args.ranks c.in_ok-seats.seats.items c.in_ok-seats.ensures.new c.in_ok-seats.ensures.count
