use Rattle.std.proofs.Common.{◌≡◌, ℕ, Bool, List, Option, Some, length}
use Rattle.std.specs.Prelude.{IfSome, slice_get}
use Rattle.audit.specs.FinalRuns.Maximal.{RankOutcome}
use Rattle.explore.specs.declared.moves.Noted.{Noted}
use Rattle.explore.specs.Explored.{noted_choices, rank_outcomes}
use Rattle.explore.specs.Shown.{IsMark}
use Rattle.explore.proofs.marking.marks_of.Given as goal

-- the outcomes so far have their marks
abbrev pub invariant-loop-at : goal.invariant-loop-at
invariant-loop-at l = record {
  as_many : length l.marks.items ≡ l.at;
  each : (i : ℕ) (o : List RankOutcome) (cs : List Noted) (mark : Option Bool) → slice_get (rank_outcomes l.outcomes) i ≡ Some o
      → slice_get (noted_choices l.outcomes) i ≡ Some cs → slice_get l.marks.items i ≡ Some mark → IfSome mark (IsMark l.mode l.program l.ranks o cs);
}
