use Rattle.std.proofs.Common.{◌≡◌, length}
use Rattle.command_line.specs.Words.{is_given, texts}
use Rattle.command_line.proofs.words.is_given.Given as goal

-- the words that are left decide
abbrev pub invariant-loop-word : goal.invariant-loop-word
invariant-loop-word l = is_given l.name (texts l.rest) ≡ is_given l.name (texts l.arguments)

abbrev pub decreases-loop-word : goal.decreases-loop-word
decreases-loop-word l = length l.rest
