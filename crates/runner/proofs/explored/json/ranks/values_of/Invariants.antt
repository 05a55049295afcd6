use Rattle.std.proofs.Common.{◌≡◌, map, take}
use Rattle.serde_json.specs.View.{view}
use Rattle.runner.specs.SearchObject.{value}
use Rattle.runner.proofs.explored.json.ranks.values_of.Given as goal

-- those that are made are the first ones
abbrev pub invariant-loop-printed : goal.invariant-loop-printed
invariant-loop-printed l = map view l.list.items ≡ map value (take l.printed-index l.values)
