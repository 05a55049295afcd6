use Rattle.std.proofs.Common.{◌≡◌, ◌++◌, length, string_bytes}
use Rattle.runner.specs.CostsText.{cells_text}
use Rattle.runner.proofs.costs.print_cells.Given as goal

-- what is written and the numbers that are left are the whole
abbrev pub invariant-loop-rest : goal.invariant-loop-rest
invariant-loop-rest l = string_bytes l.text ++ cells_text l.rest ≡ string_bytes l.initial.text ++ cells_text l.cells

abbrev pub decreases-loop-rest : goal.decreases-loop-rest
decreases-loop-rest l = length l.rest
