use Rattle.std.proofs.Common.{◌≡◌, ◌++◌, ◌≤◌, ◌-◌, length, take, drop}
use Rattle.rank_text.specs.Lines.Pieces.{front}
use Rattle.rank_text.proofs.lines.pieces.front.Given as goal

-- the bytes so far are the piece's
abbrev pub invariant-loop-length : goal.invariant-loop-length
invariant-loop-length l = record {
  within : l.length ≤ length l.text;
  front : take l.length l.text ++ front l.separator (drop l.length l.text) ≡ front l.separator l.text;
}

abbrev pub decreases-loop-length : goal.decreases-loop-length
decreases-loop-length l = length l.text - l.length
