use Rattle.std.proofs.Common.{◌≡◌, ◌-◌, length, slice_get}
use Rattle.rank_text.specs.Lines.Pieces.{pieces_of}
use Rattle.rank_language.proofs.text_line.line_of_text.Given as goal

-- the line stands among those of the rest
abbrev pub invariant-loop-line : goal.invariant-loop-line
invariant-loop-line l = slice_get (pieces_of 10 l.rest) l.left ≡ slice_get (pieces_of 10 l.text) (l.number - 1)

abbrev pub decreases-loop-line : goal.decreases-loop-line
decreases-loop-line l = length l.rest
