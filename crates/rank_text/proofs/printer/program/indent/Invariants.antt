use Rattle.std.proofs.Common.{◌≡◌, ◌++◌}
use Rattle.rank_text.specs.Printer.Canonical.{indentation}
use Rattle.rank_text.proofs.printer.program.indent.Given as goal

-- two spaces for each turn
abbrev pub invariant-loop-i : goal.invariant-loop-i
invariant-loop-i l = l.text.items ≡ l.fn.text.items ++ indentation l._i
