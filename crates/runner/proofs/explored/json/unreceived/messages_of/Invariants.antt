use Rattle.std.proofs.Common.{◌≡◌, map, take}
use Rattle.serde_json.specs.View.{view}
use Rattle.runner.specs.SearchObject.{left_object}
use Rattle.runner.proofs.explored.json.unreceived.messages_of.Given as goal

-- those that are made are the first ones
abbrev pub invariant-loop-one : goal.invariant-loop-one
invariant-loop-one l = map view l.list.items ≡ map left_object (take l.one-index l.messages)
