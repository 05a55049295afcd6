use Rattle.std.proofs.Common.{◌≡◌, length}
use Rattle.std.specs.Prelude.{slice_get}
use Rattle.command_line.specs.Words.{texts}
use Rattle.command_line.proofs.words.word_at.Given as goal

-- the word is among those that are left
abbrev pub invariant-loop-word : goal.invariant-loop-word
invariant-loop-word l = slice_get (texts l.rest) l.left ≡ slice_get (texts l.words) l.place

abbrev pub decreases-loop-word : goal.decreases-loop-word
decreases-loop-word l = length l.rest
