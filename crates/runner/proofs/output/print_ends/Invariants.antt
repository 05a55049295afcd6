use Rattle.std.proofs.Common.{◌≡◌, ◌+◌, ◌++◌, length, string_bytes}
use Rattle.runner.specs.ReportText.{ends_text}
use Rattle.runner.proofs.output.print_ends.Given as goal

-- what is written and the ends that are left are the whole
abbrev pub invariant-loop-rest : goal.invariant-loop-rest
invariant-loop-rest l = record {
  within : l.rank + length l.rest ≡ length l.ends;
  whole : string_bytes l.text ++ ends_text l.rank l.rest ≡ string_bytes l.initial.text ++ ends_text 0 l.ends;
}

abbrev pub decreases-loop-rest : goal.decreases-loop-rest
decreases-loop-rest l = length l.rest
