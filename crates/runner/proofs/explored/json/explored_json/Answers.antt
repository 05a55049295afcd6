use Rattle.std.proofs.Common.{rules, string_bytes}
use Rattle.serde_json.specs.View.{items_view, members_view, view}
use Rattle.runner.proofs.SearchObjects.{is_search_object}
use Rattle.runner.proofs.explored.json.explored_json.Goals as goal

-- what is written is the object, with what is said of safety behind what was found
pub returns : goal.returns
returns c =
    is_search_object c.args.found.now c.args.left.now c.args.marks.now c.args.lines.now c.args.safety.now (items_view c.in_ok-races.races.items)
    (members_view c.put_counts.new.to.entries) (view c.from-3.result) (string_bytes c.in_ok-text.text) (string_bytes c.push.new.self) (search rules)
    (search rules) (search rules) (search rules) (search rules)
