use Rattle.std.proofs.Common.{refl}
use Rattle.explore.proofs.Stopping.{back_point, back_resting, back_short, back_there, back_unmoved}
use Rattle.explore.proofs.taking.go_back.Goals as goal

pub go_back-requires-clause-point : goal.go_back-requires-clause-point
go_back-requires-clause-point c =
    back_point c.args.path.now.sim c.args.stops.now c.closest-stop.result.now c.closest-stop.ensures c.requires.back.0 c.requires.back.1.of_run

pub go_back-requires-clause-marks : goal.go_back-requires-clause-marks
go_back-requires-clause-marks c =
    back_resting c.args.path.now.sim c.args.stops.now c.closest-stop.result.now c.closest-stop.ensures c.requires.back.0 c.requires.back.1.of_run

pub go_back-requires-clause-unmoved : goal.go_back-requires-clause-unmoved
go_back-requires-clause-unmoved c =
    back_unmoved c.args.path.now.sim c.args.stops.now c.closest-stop.result.now c.closest-stop.ensures c.requires.back.0 c.requires.back.1.of_run
    c.args.path.now.left c.have_equal-unmoved.result c.requires.back.1.counts c.have_equal-unmoved.ensures

pub returns-clause-short : goal.returns-clause-short
returns-clause-short c =
    back_short c.args.path.now.sim c.args.stops.now c.closest-stop.result.now c.closest-stop.ensures c.requires.back.0 c.requires.back.1.of_run
    c.go_back.new.self c.in_ok-since.ensures.back

pub returns-clause-back : goal.returns-clause-back
returns-clause-back c = λ steps are.
    back_there c.args.path.now.sim c.args.stops.now c.closest-stop.result.now c.closest-stop.ensures steps are c.go_back.new.self
    c.closest-stop.result.now.left c.in_ok-since.ensures.back refl
