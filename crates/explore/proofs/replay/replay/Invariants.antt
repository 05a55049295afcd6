use Rattle.std.proofs.Common.{sum}
use Rattle.crash_free.specs.Sim.{Simulates}
use Rattle.explore.specs.Chosen.{KeepsChoices}
use Rattle.explore.specs.Counts.{KeepsCount}
use Rattle.explore.specs.Searching.{IsAlike}
use Rattle.explore.specs.Sending.{HasRunUnder}
use Rattle.explore.proofs.replay.replay.Given as goal

-- so far the ranks are those of the beginning, and the choices are those that were made
abbrev pub invariant-loop-found : goal.invariant-loop-found
invariant-loop-found l = record {
  alike : IsAlike l.initial.path.sim l.path.sim;
  stands : Simulates l.path.sim;
  counts : KeepsCount l.initial.path.sim l.initial.path.left l.path.sim l.path.left;
  choices : KeepsChoices l.mode l.initial.path l.path;
  is_run : HasRunUnder l.mode l.path.sim;
}

abbrev pub decreases-loop-found : goal.decreases-loop-found
decreases-loop-found l = sum l.path.left
