use Rattle.std.proofs.Common.{◌≡◌, map, take}
use Rattle.serde_json.specs.View.{view}
use Rattle.runner.specs.SearchObject.{choice_object}
use Rattle.runner.proofs.explored.json.choices.choices_of.Given as goal

-- those that are made are the first ones
abbrev pub invariant-loop-noted : goal.invariant-loop-noted
invariant-loop-noted l = map view l.list.items ≡ map (choice_object l.lines) (take l.noted-index l.choices)
