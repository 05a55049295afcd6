use Rattle.std.proofs.Common.{◌≡◌, ◌+◌, ◌++◌, length, string_bytes}
use Rattle.runner.specs.Meanings.{marks_text}
use Rattle.runner.proofs.explored.meaning.print_marks.Given as goal

-- what is written and the marks that are left are the whole
abbrev pub invariant-loop-rest : goal.invariant-loop-rest
invariant-loop-rest l = record {
  within : l.number + length l.rest ≡ length l.marks;
  whole : string_bytes l.text ++ marks_text (l.number + 1) l.rest ≡ string_bytes l.initial.text ++ marks_text 1 l.marks;
}

abbrev pub decreases-loop-rest : goal.decreases-loop-rest
decreases-loop-rest l = length l.rest
