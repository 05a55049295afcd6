use Rattle.std.proofs.Common.{◌≡◌, length}
use Rattle.command_line.specs.Words.{texts, value_of}
use Rattle.command_line.proofs.words.value_of.Given as goal

-- the words that are left decide
abbrev pub invariant-loop-word : goal.invariant-loop-word
invariant-loop-word l = value_of l.name (texts l.rest) ≡ value_of l.name (texts l.arguments)

abbrev pub decreases-loop-word : goal.decreases-loop-word
decreases-loop-word l = length l.rest
