use Rattle.std.proofs.Common.{◌≡◌, ◌+◌, ◌++◌, length, map}
use Rattle.explore.specs.Explored.{noted_choices, rank_outcomes}
use Rattle.serde_json.specs.View.{view}
use Rattle.runner.specs.SearchObject.{outcome_objects}
use Rattle.runner.proofs.explored.json.each_outcome.outcomes_of.Given as goal

-- those that are made and the outcomes that are left are the whole
abbrev pub invariant-loop-rest : goal.invariant-loop-rest
invariant-loop-rest l = record {
  within : l.index + length l.rest ≡ length l.outcomes;
  whole : map view l.list.items ++ outcome_objects l.lines l.left l.marks l.index (rank_outcomes l.rest) (noted_choices l.rest)
      ≡ outcome_objects l.lines l.left l.marks 0 (rank_outcomes l.outcomes) (noted_choices l.outcomes);
}

abbrev pub decreases-loop-rest : goal.decreases-loop-rest
decreases-loop-rest l = length l.rest
