use Rattle.std.proofs.Common.{◌≡◌, ◌+◌, ◌++◌, length, map}
use Rattle.serde_json.specs.View.{view}
use Rattle.runner.specs.SearchObject.{rank_objects}
use Rattle.runner.proofs.explored.json.ranks.ranks_of.Given as goal

-- those that are made and the ranks that are left are the whole
abbrev pub invariant-loop-rest : goal.invariant-loop-rest
invariant-loop-rest l = record {
  within : l.rank + length l.rest ≡ length l.ranks;
  whole : map view l.list.items ++ rank_objects l.rank l.rest ≡ rank_objects 0 l.ranks;
}

abbrev pub decreases-loop-rest : goal.decreases-loop-rest
decreases-loop-rest l = length l.rest
