use Rattle.std.proofs.Common.{◌≡◌, ◌≤◌, ◌+◌, length}
use Rattle.rank_text.specs.Lines.Pieces.{pieces_of}
use Rattle.outcomes.specs.Text.Texts.{entries_from, entries_of, first_fault, first_fault_from, AreProgress}
use Rattle.outcomes.proofs.text.text.OutcomeText.parse.Given as goal

-- the lines that are left, behind what was read, decide on the entries and on the first fault
abbrev pub invariant-loop-line : goal.invariant-loop-line
invariant-loop-line l = record {
  within : l.number + length l.rest ≤ length l.text + 1;
  entries : entries_from l.reading.entries.items l.number (pieces_of 10 l.rest) ≡ entries_of l.text;
  faults : first_fault_from l.ranks l.reading.entries.items l.number (pieces_of 10 l.rest) ≡ first_fault l.ranks l.text;
  progress : AreProgress l.ranks l.reading.entries.items l.reading.progress.items;
}

abbrev pub decreases-loop-line : goal.decreases-loop-line
decreases-loop-line l = length l.rest
