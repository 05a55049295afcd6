use Rattle.std.proofs.Common.{◌≡◌, ◌^◌, ◌<◌, length}
use Rattle.rank_text.specs.Lines.Numbers.{decimal_of, value_behind, wide_of}
use Rattle.rank_text.proofs.lines.number.wide_decimal.Given as goal

-- what is left of the digits makes the value so far the word's
abbrev pub invariant-loop-rest : goal.invariant-loop-rest
invariant-loop-rest l = record {
  number : wide_of (value_behind l.value l.rest) ≡ wide_of (decimal_of l.word);
  fits : l.value < 2 ^ 64;
}

abbrev pub decreases-loop-rest : goal.decreases-loop-rest
decreases-loop-rest l = length l.rest
