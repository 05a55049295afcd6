use Rattle.std.proofs.Common.{◌≡◌, length}
use Rattle.rank_text.specs.Checker.SeenLines.{forms_seen}
use Rattle.telling.specs.Free.{is_declared}
use Rattle.telling.proofs.free.is_declared.Given as goal

-- none so far
abbrev pub invariant-loop-left : goal.invariant-loop-left
invariant-loop-left l = is_declared l.name (forms_seen l.left) ≡ is_declared l.name (forms_seen l.forms)

abbrev pub decreases-loop-left : goal.decreases-loop-left
decreases-loop-left l = length l.left
