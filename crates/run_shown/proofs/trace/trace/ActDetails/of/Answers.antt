use Rattle.limits.specs.Limits.{most_ranks}
use Rattle.run_shown.proofs.TraceLaws.PlacesLemmas.{of_ranks}
use Rattle.run_shown.proofs.trace.trace.ActDetails.of.Goals as goal

pub deliveries_of-requires : goal.deliveries_of-requires
deliveries_of-requires c =
    of_ranks c.args.program.now c.args.ranks most_ranks c.acts-acts.result.now c.in_ok-places.places.items c.in_ok-places.ensures c.requires.few
