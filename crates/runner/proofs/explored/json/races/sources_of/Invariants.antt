use Rattle.std.proofs.Common.{◌≡◌, false}
use Rattle.serde_json.specs.View.{items_view}
use Rattle.serde_json.specs.Written.{items_have_float}
use Rattle.runner.proofs.explored.json.races.sources_of.Given as goal

-- those that are made have no float
abbrev pub invariant-loop-rank : goal.invariant-loop-rank
invariant-loop-rank l = items_have_float (items_view l.list.items) ≡ false
