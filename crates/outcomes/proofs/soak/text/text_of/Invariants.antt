use Rattle.std.proofs.Common.{◌≡◌, ◌++◌, length, string_bytes}
use Rattle.outcomes.specs.Soak.Text.{text_of}
use Rattle.outcomes.proofs.soak.text.text_of.Given as goal

-- what is written and the text of the lines that are left are the whole
abbrev pub invariant-loop-rest : goal.invariant-loop-rest
invariant-loop-rest l = string_bytes l.text ++ text_of l.rest ≡ text_of l.lines

abbrev pub decreases-loop-rest : goal.decreases-loop-rest
decreases-loop-rest l = length l.rest
