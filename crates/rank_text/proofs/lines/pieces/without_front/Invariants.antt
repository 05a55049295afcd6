use Rattle.std.proofs.Common.{◌≡◌, length}
use Rattle.rank_text.specs.Lines.Pieces.{without_front}
use Rattle.rank_text.proofs.lines.pieces.without_front.Given as goal

-- what is left decides
abbrev pub invariant-loop-rest : goal.invariant-loop-rest
invariant-loop-rest l = without_front l.separator l.rest ≡ without_front l.separator l.text

abbrev pub decreases-loop-rest : goal.decreases-loop-rest
decreases-loop-rest l = length l.rest
