use Rattle.explore.proofs.Shown.{probe_there}
use Rattle.explore.proofs.marking.misses_past.Goals as goal

pub returns-clause-no : goal.returns-clause-no
returns-clause-no c = λ e miss shown.
    c.is_past.ensures.no e shown.selector (probe_there c.args.sim.now c.args.rank c.requires.stands c.requires.at shown) shown.past
