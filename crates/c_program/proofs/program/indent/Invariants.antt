use Rattle.std.proofs.Common.{◌≡◌, ◌++◌}
use Rattle.c_program.specs.Translation.{c_indentation}
use Rattle.c_program.proofs.program.indent.Given as goal

-- four spaces for the function, and for each turn
abbrev pub invariant-loop-i : goal.invariant-loop-i
invariant-loop-i l = l.text.items ≡ l.fn.text.items ++ c_indentation l._i
