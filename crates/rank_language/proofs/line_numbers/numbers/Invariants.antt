use Rattle.std.proofs.Common.{◌≡◌, ◌+◌, ◌≤◌, ◌++◌, length}
use Rattle.rank_text.specs.Lines.Pieces.{pieces_of}
use Rattle.rank_language.specs.LineNumbers.{numbers_from}
use Rattle.rank_language.proofs.line_numbers.numbers.Given as goal

-- the numbers so far and those of the rest are all, and a line is as long as it counts
abbrev pub invariant-loop-line : goal.invariant-loop-line
invariant-loop-line l = record {
  whole : l.lines.items ++ numbers_from l.number (pieces_of 10 l.rest) ≡ numbers_from 1 (pieces_of 10 l.text);
  within : l.number + length l.rest ≤ length l.text + 1;
}

abbrev pub decreases-loop-line : goal.decreases-loop-line
decreases-loop-line l = length l.rest
