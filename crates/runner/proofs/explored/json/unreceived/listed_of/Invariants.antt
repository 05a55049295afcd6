use Rattle.std.proofs.Common.{◌≡◌, map, take}
use Rattle.serde_json.specs.View.{view}
use Rattle.runner.specs.SearchObject.{left_array}
use Rattle.runner.proofs.explored.json.unreceived.listed_of.Given as goal

-- those that are made are the first ones
abbrev pub invariant-loop-some : goal.invariant-loop-some
invariant-loop-some l = map view l.list.items ≡ map left_array (take l.some-index l.listed)
