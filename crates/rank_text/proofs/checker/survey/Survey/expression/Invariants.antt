use Rattle.std.proofs.Common.{◌≡◌, ◌&&◌, ◌||◌}
use Rattle.std.specs.Prelude.{nat_lt}
use Rattle.limits.specs.Limits.{most_nodes}
use Rattle.rank_text.specs.Grammar.Tree.{tree_of}
use Rattle.rank_text.specs.Checker.Scope.{all_declared, is_great, nodes}
use Rattle.rank_text.specs.Checker.SeenLines.{scope_seen}
use Rattle.rank_text.specs.Checker.Waiting.{all_known, nodes_in_all, some_great}
use Rattle.rank_text.proofs.checker.survey.Survey.expression.Given as goal

-- what has been found and what waits give what the whole expression does
abbrev pub invariant-loop-node : goal.invariant-loop-node
invariant-loop-node l = record {
  declared : (l.self.declared && all_known (scope_seen l.scope) l.waiting.items)
      ≡ (l.fn.self.declared && all_declared (scope_seen l.scope) (tree_of l.expression));
  large : (l.self.large || nat_lt l.self.room (nodes_in_all l.waiting.items))
      ≡ (l.fn.self.large || nat_lt most_nodes (nodes (tree_of l.expression)));
  great : (l.self.great || some_great l.waiting.items) ≡ (l.fn.self.great || is_great (tree_of l.expression));
}

abbrev pub decreases-loop-node : goal.decreases-loop-node
decreases-loop-node l = nodes_in_all l.waiting.items
