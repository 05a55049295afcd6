use Rattle.std.proofs.Common.{◌≡◌, ◌<◌, ℕ, List, Some, slice_get}
use Rattle.event_logger.specs.Sequential.Event.{EventValue}
use Rattle.crash_free.specs.Parts.{IsBeginning}
use Rattle.crash_free.specs.Runs.{printed}
use Rattle.audit.specs.Outcome.{lines_of}
use Rattle.audit.specs.Rows.{expand, row}
use Rattle.audit.proofs.progress.Progress.is_within.Given as goal

-- so far each row begins with that of the run
abbrev pub invariant-loop-place : goal.invariant-loop-place
invariant-loop-place l =
    (r : ℕ) (events : List EventValue) → r < l.place → slice_get l.goal.outcome.now.rows r ≡ Some events → IsBeginning (row l.self.sim.run r) (expand events)

-- and so far the lines of each rank
abbrev pub invariant-loop-rank : goal.invariant-loop-rank
invariant-loop-rank l = (r : ℕ) → r < l.rank → IsBeginning (printed l.self.sim.run r) (lines_of r l.goal.outcome.now.lines)
