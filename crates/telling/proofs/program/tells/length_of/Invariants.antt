use Rattle.std.proofs.Common.{◌≡◌, length}
use Rattle.rank_text.specs.Checker.SeenLines.{forms_seen}
use Rattle.telling.specs.Telling.{length_of}
use Rattle.telling.proofs.program.tells.length_of.Given as goal

-- none so far
abbrev pub invariant-loop-left : goal.invariant-loop-left
invariant-loop-left l = length_of l.name (forms_seen l.left) ≡ length_of l.name (forms_seen l.forms)

abbrev pub decreases-loop-left : goal.decreases-loop-left
decreases-loop-left l = length l.left
