use Rattle.std.proofs.Common.{◌≡◌, ◌≤◌, length}
use Rattle.rank_text.specs.Lines.Pieces.{behind}
use Rattle.rank_text.proofs.lines.pieces.behind.Given as goal

-- what is left decides
abbrev pub invariant-loop-rest : goal.invariant-loop-rest
invariant-loop-rest l = record {
  behind : behind l.separator l.rest ≡ behind l.separator l.text;
  within : length l.rest ≤ length l.text;
}

abbrev pub decreases-loop-rest : goal.decreases-loop-rest
decreases-loop-rest l = length l.rest
