use Rattle.std.proofs.Common.{refl}
use Rattle.runner.proofs.SearchObjects.{pushed}
use Rattle.runner.proofs.explored.json.races.sources_of.Goals as goal
use Rattle.runner.proofs.explored.json.races.sources_of.Goals.{then-is_one+in_ok-push, else-is_one}

-- a rank's number is no float
pub loop-rank-preserved : goal.loop-rank-preserved
loop-rank-preserved c = elim c.if-is_one.branch [
  | then-is_one+in_ok-push w ↦
      rw (w.list-is, w.in_ok-push.ensures.items) (pushed c.loop-rank.list.items w.from.result c.loop-rank.invariant (rw w.from.ensures refl))
  | else-is_one w ↦ rw w.list-is c.loop-rank.invariant
]
