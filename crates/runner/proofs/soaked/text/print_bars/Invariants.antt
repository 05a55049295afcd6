use Rattle.std.proofs.Common.{◌≡◌, ◌+◌, ◌++◌, length, string_bytes}
use Rattle.runner.specs.SoakText.{bars_text}
use Rattle.runner.proofs.soaked.text.print_bars.Given as goal

-- what is written and the outcomes that are left are the whole
abbrev pub invariant-loop-rest : goal.invariant-loop-rest
invariant-loop-rest l = record {
  within : l.count + length l.rest ≡ length l.bars;
  whole : string_bytes l.text ++ bars_text (l.count + 1) l.rest ≡ string_bytes l.initial.text ++ bars_text 1 l.bars;
}

abbrev pub decreases-loop-rest : goal.decreases-loop-rest
decreases-loop-rest l = length l.rest
