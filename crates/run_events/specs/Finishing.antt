-- From a complete search to the end of every world: whatever crashed, the program can finish, and
-- its outcome is one of those that were found, as long as each continuation of the world's run
-- stays within the limits on acts and events.
-- Source: recovery to a consistent state from which execution goes on, Elnozahy and others 2002;
-- refinement of crash-free executions.
use Rattle.std.specs.Prelude.{List, []}
use Rattle.audit.specs.FinalRuns.Maximal.{RankOutcome, IsOutcomeOf}
use Rattle.explore.specs.Exploring.{AlwaysEndsIn}
use Rattle.explore.specs.Outcomes.{IsAmong}
use Rattle.bare_world.specs.World.{WorldValue, size, start_of}
use Rattle.bare_world.specs.ToTheEnd.{StaysWithin, CanEnd}
use Rattle.explore.specs.declared.send_mode.SendMode.TheVariants.{Buffered}

-- By events of which none is a crash the world comes to its end, and its run there is maximal and
-- has one of these outcomes.
pub record CanFinish (outcomes : List (List RankOutcome)) (w : WorldValue) : Type 0 where
  pub way : CanEnd w
  pub outcome : List RankOutcome
  pub is_outcome : IsOutcomeOf (start_of w) (size w) way.after.run outcome
  pub found : IsAmong outcomes outcome

-- If the program's ranks come to an end among these outcomes however they go on, and each
-- continuation of the world's run stays within the limits, the world can finish with one of them.
abbrev pub FinishesAmong : List (List RankOutcome) → WorldValue → Type 0
FinishesAmong outcomes w =
    AlwaysEndsIn Buffered (start_of w) (size w) (IsAmong outcomes) [] → StaysWithin (start_of w) (size w) w.run → CanFinish outcomes w
