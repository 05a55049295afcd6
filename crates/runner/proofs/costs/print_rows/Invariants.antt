use Rattle.std.proofs.Common.{◌≡◌, ◌++◌, string_bytes}
use Rattle.runner.specs.CostsText.{rows_below}
use Rattle.runner.proofs.costs.print_rows.Given as goal

-- the lines of the ranks so far are written
abbrev pub invariant-loop-rank : goal.invariant-loop-rank
invariant-loop-rank l = string_bytes l.text ≡ string_bytes l.initial.text ++ rows_below l.rank l.report
