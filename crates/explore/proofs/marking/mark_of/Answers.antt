use Rattle.crash_free.specs.Sim.{start_of}
use Rattle.explore.proofs.Shown.{run_back, mark_there}
use Rattle.explore.proofs.marking.mark_of.Goals as goal

pub misses_shown-requires-clause-run : goal.misses_shown-requires-clause-run
misses_shown-requires-clause-run c =
    run_back c.args.mode (start_of c.args.program.now c.args.ranks) c.args.ranks c.in-Some.run'.run c.acts.result.now c.args.outcome.now.ranks
    (rw c.in-Some.is at c.in_ok-run.ensures.outcome) c.acts.ensures

pub returns : goal.returns
returns c =
    mark_there c.args.mode c.args.program.now c.args.ranks c.args.outcome.now.ranks c.args.outcome.now.choices c.in-Some.run'.run c.acts.result.now
    c.misses_shown.result (rw c.in-Some.is at c.in_ok-run.ensures.outcome) (rw c.in-Some.is at c.in_ok-run.ensures.choices) c.acts.ensures c.misses_shown.ensures.yes c.misses_shown.ensures.no
