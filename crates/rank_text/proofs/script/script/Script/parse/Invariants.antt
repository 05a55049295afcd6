use Rattle.std.proofs.Common.{◌≡◌, ◌≤◌, ◌+◌, ◌++◌, length}
use Rattle.std.specs.List.{filter_map}
use Rattle.rank_text.specs.Lines.Pieces.{pieces_of}
use Rattle.rank_text.specs.Scripts.Script.{order_by, first_fault, first_fault_from, script_lines}
use Rattle.rank_text.proofs.script.script.Script.parse.Given as goal

-- what was asked for so far stands before what the lines that are left ask for, and these decide on the first fault
abbrev pub invariant-loop-line : goal.invariant-loop-line
invariant-loop-line l = record {
  within : l.number + length l.rest ≤ length l.text + 1;
  lines : l.lines.items ++ filter_map order_by (pieces_of 10 l.rest) ≡ script_lines l.text;
  faults : first_fault_from l.ranks l.number (pieces_of 10 l.rest) ≡ first_fault l.ranks l.text;
}

abbrev pub decreases-loop-line : goal.decreases-loop-line
decreases-loop-line l = length l.rest
