use Rattle.std.proofs.Common.{◌≡◌, ◌<◌, ◌≤◌, ◌-◌, ℕ, false, Some, length, slice_get}
use Rattle.explore.specs.LastState.{IsCurrent}
use Rattle.explore.specs.Met.{first_rows}
use Rattle.explore.specs.Parts.{KeepsParts}
use Rattle.explore.proofs.met.state_of.Given as goal

-- the places of the ranks so far are known, behind that of the length of the run or of nothing; those of the others are current unless they are marked
abbrev pub invariant-loop-rank : goal.invariant-loop-rank
invariant-loop-rank l = record {
  keeps : KeepsParts l.fn.parts l.parts;
  there : slice_get l.parts l.first ≡ Some (first_rows l.fn.closes l.fn.sim.run);
  known : (r : ℕ) → r < l.rank → IsCurrent l.fn.live l.fn.sim.program (length l.fn.sim.machines) l.fn.sim.run l.parts l.last r;
  rest : (r : ℕ) → r < length l.fn.sim.machines → slice_get l.last.changed r ≡ Some false
      → IsCurrent l.fn.live l.fn.sim.program (length l.fn.sim.machines) l.fn.sim.run l.parts l.last r;
  caught_up : l.last.shared ≡ length l.fn.sim.run;
  within : l.rank ≤ l.ranks;
}

abbrev pub decreases-loop-rank : goal.decreases-loop-rank
decreases-loop-rank l = l.ranks - l.rank
