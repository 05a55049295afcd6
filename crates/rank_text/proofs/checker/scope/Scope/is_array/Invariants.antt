use Rattle.std.proofs.Common.{◌≡◌, drop, map}
use Rattle.rank_text.specs.Checker.Scope.{is_name_in}
use Rattle.rank_text.specs.Checker.SeenLines.{arrays_seen}
use Rattle.rank_text.proofs.checker.scope.Scope.is_array.Given as goal

-- none so far
abbrev pub invariant-loop-array : goal.invariant-loop-array
invariant-loop-array l =
    is_name_in (map (λ a. a.0) (arrays_seen (drop l.array-index l.array-items))) l.name ≡ is_name_in (map (λ a. a.0) (arrays_seen l.array-items)) l.name
