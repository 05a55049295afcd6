use Rattle.std.proofs.Common.{◌≡◌, length}
use Rattle.std.specs.Prelude.{reverse, take}
use Rattle.crash_free.specs.Sim.{Simulates, start_of}
use Rattle.explore.specs.LastShown.{KnowsShown}
use Rattle.explore.specs.Shown.{MissesShown}
use Rattle.explore.proofs.marking.misses_shown.Given as goal

-- the acts so far were made again, and none of them is such a miss
abbrev pub invariant-loop-at : goal.invariant-loop-at
invariant-loop-at l = record {
  made : l.sim.run ≡ reverse (take l.at l.acts);
  program : l.sim.program ≡ l.program;
  ranks : length l.sim.machines ≡ l.ranks;
  stands : Simulates l.sim;
  knows : KnowsShown l.sim.run l.shown.last;
  none : MissesShown (start_of l.program l.ranks) l.sim.run → ⊥;
}
