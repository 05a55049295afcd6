use Rattle.std.proofs.Common.{◌≡◌, ◌≤◌, ◌+◌, length}
use Rattle.limits.specs.Limits.{most_lines}
use Rattle.rank_text.specs.Lines.Pieces.{pieces_of}
use Rattle.rank_text.specs.Checker.Verdict.{reading_of}
use Rattle.rank_text.specs.Checker.Progress.{IsLed, going, reader_seen}
use Rattle.rank_text.proofs.checker.draft.read_lines.Given as goal

-- the rest gives what the whole text does
abbrev pub invariant-loop-line : goal.invariant-loop-line
invariant-loop-line l = record {
  going : going (reader_seen l.reader) l.number (pieces_of 10 l.rest) ≡ reading_of l.text;
  led : IsLed (reader_seen l.reader);
  early : l.number ≤ most_lines + 1;
}

abbrev pub decreases-loop-line : goal.decreases-loop-line
decreases-loop-line l = length l.rest
