use Rattle.std.proofs.Common.{◌≡◌, map, take}
use Rattle.serde_json.specs.View.{view}
use Rattle.runner.specs.SearchObject.{wait_object}
use Rattle.runner.proofs.explored.json.waits.wait_values.Given as goal

-- those that are made are the first ones
abbrev pub invariant-loop-wait : goal.invariant-loop-wait
invariant-loop-wait l = map view l.list.items ≡ map wait_object (take l.wait-index l.ranks)
