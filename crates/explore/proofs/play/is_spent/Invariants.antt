use Rattle.std.proofs.Common.{ℕ, ◌<◌, ◌≡◌, Some, slice_get, slice_index}
use Rattle.explore.specs.declared.moves.Move.{Move}
use Rattle.explore.proofs.play.is_spent.Given as goal

-- none of the moves so far
abbrev pub invariant-loop-each : goal.invariant-loop-each
invariant-loop-each l = (i : ℕ) (m : Move) → i < l.each-index → slice_get l.moves i ≡ Some m → 0 < slice_index l.left m.rank
