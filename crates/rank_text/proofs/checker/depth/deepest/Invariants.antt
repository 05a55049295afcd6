use Rattle.std.proofs.Common.{◌≡◌, ◌+◌, ◌≤◌, max, length}
use Rattle.rank_text.specs.Checker.Scope.{deepest}
use Rattle.rank_text.proofs.checker.depth.deepest.Given as goal

-- what was open at once so far, and what will be
abbrev pub invariant-loop-rest : goal.invariant-loop-rest
invariant-loop-rest l = record {
  going : max l.most (deepest l.open l.rest) ≡ deepest 0 l.tokens;
  few : l.open + length l.rest ≤ length l.tokens;
}

abbrev pub decreases-loop-rest : goal.decreases-loop-rest
decreases-loop-rest l = length l.rest
