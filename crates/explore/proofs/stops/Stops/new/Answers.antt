use Rattle.explore.proofs.Stopping.{stops_begin}
use Rattle.explore.proofs.stops.Stops.new.Goals as goal

pub returns : goal.returns
returns c = λ steps counts.
    stops_begin c.args.path.now.sim c.args.path.now.left _ c.requires c.new.ensures.items c.in_ok-stop_at.ensures steps counts
