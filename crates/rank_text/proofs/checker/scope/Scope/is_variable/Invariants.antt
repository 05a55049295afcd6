use Rattle.std.proofs.Common.{◌≡◌, drop}
use Rattle.rank_text.specs.Checker.Scope.{is_name_in}
use Rattle.rank_text.proofs.checker.scope.Scope.is_variable.Given as goal

-- none so far
abbrev pub invariant-loop-variable : goal.invariant-loop-variable
invariant-loop-variable l = is_name_in (drop l.variable-index l.variable-items) l.name ≡ is_name_in l.variable-items l.name
