use Rattle.std.proofs.Common.{refl}
use Rattle.explore.proofs.Going.{on_begins}
use Rattle.explore.proofs.ongoing.Search.new.Goals as goal

pub returns-clause-on : goal.returns-clause-on
returns-clause-on c = λ mode.
    rw (c.in_ok-push.ensures.items, c.new-pending.ensures.items, c.new-3.ensures, c.new-4.ensures)
    (on_begins mode c.args.program.now c.args.ranks c.in_ok-path.path.sim _ c.in_ok-path.ensures.begins.program_same c.in_ok-path.ensures.begins.ranks
    c.in_ok-path.ensures.begins.run refl refl c.args.closes)

pub returns-clause-back : goal.returns-clause-back
returns-clause-back c = c.in_ok-stops.ensures c.args.limits.steps c.in_ok-path.ensures.counts

pub returns-clause-knows : goal.returns-clause-knows
returns-clause-knows c = λ t. c.new-5.ensures t c.args.program.now c.args.ranks c.in_ok-path.path.sim.run c.new-4.result.parts
