-- No execution misses what it was shown: in the run that a world stands for no probe misses a
-- message that its rank was shown, whatever crashed. A crash-free run of the reference may, and a
-- search marks the outcomes of such runs.
use Rattle.crash_free.specs.Sim.{start_of}
use Rattle.explore.specs.Shown.{MissesShown}
use Rattle.bare_world.specs.World.{WorldValue, size}

-- the run of the world has no such miss
abbrev pub MissesNothingShown : WorldValue → Type 0
MissesNothingShown w = MissesShown (start_of w.program (size w)) w.run → ⊥
