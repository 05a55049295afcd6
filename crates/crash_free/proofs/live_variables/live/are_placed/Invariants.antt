use Rattle.std.proofs.Common.{◌≡◌, ℕ, ◌<◌, ◌-◌, Some, length}
use Rattle.std.specs.Prelude.{slice_get}
use Rattle.rank_language.specs.Block.{Line}
use Rattle.rank_language.specs.Program.{IsPlaced}
use Rattle.crash_free.proofs.live_variables.live.are_placed.Given as goal

-- the places of the lines so far are
abbrev pub invariant-loop-position : goal.invariant-loop-position
invariant-loop-position l = record {
  placed : (p : ℕ) (k : Line) → p < l.position → slice_get l.program.statements p ≡ Some k → IsPlaced (length l.program.variables) (length l.program.arrays) k;
}

abbrev pub decreases-loop-position : goal.decreases-loop-position
decreases-loop-position l = l.lines - l.position
