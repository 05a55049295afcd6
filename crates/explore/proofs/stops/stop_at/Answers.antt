use Rattle.std.proofs.Common.{refl}
use Rattle.explore.proofs.Stopping.{stop_there}
use Rattle.explore.proofs.stops.stop_at.Goals as goal

pub returns : goal.returns
returns c = λ steps counts.
    stop_there c.args.path.now.sim c.args.path.now.left _ c.in_ok-point.ensures.point c.in_ok-point.ensures.here refl c.marks.ensures steps counts
