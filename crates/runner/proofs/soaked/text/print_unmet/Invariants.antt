use Rattle.std.proofs.Common.{string_bytes}
use Rattle.runner.specs.SoakText.{AreUnmet}
use Rattle.runner.proofs.soaked.text.print_unmet.Given as goal

-- of the outcomes so far those that no run had are named
abbrev pub invariant-loop-index : goal.invariant-loop-index
invariant-loop-index l = AreUnmet l.histogram l.found.outcomes l.index (string_bytes l.text)
