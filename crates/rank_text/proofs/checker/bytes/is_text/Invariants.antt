use Rattle.std.proofs.Common.{◌≡◌, length}
use Rattle.rank_text.specs.Checker.Lines.{is_text}
use Rattle.rank_text.proofs.checker.bytes.is_text.Given as goal

-- what is left decides
abbrev pub invariant-loop-rest : goal.invariant-loop-rest
invariant-loop-rest l = is_text l.rest ≡ is_text l.line

abbrev pub decreases-loop-rest : goal.decreases-loop-rest
decreases-loop-rest l = length l.rest
