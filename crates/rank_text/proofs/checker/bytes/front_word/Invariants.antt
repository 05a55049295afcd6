use Rattle.std.proofs.Common.{◌≡◌, ◌++◌, ◌≤◌, ◌-◌, length, take, drop}
use Rattle.rank_text.specs.Checker.Lines.{front_word}
use Rattle.rank_text.proofs.checker.bytes.front_word.Given as goal

-- the bytes so far are the word's
abbrev pub invariant-loop-length : goal.invariant-loop-length
invariant-loop-length l = record {
  within : l.length ≤ length l.line;
  word : take l.length l.line ++ front_word (drop l.length l.line) ≡ front_word l.line;
}

abbrev pub decreases-loop-length : goal.decreases-loop-length
decreases-loop-length l = length l.line - l.length
