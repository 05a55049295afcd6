use Rattle.std.proofs.Common.{◌≡◌, length}
use Rattle.std.specs.Prelude.{slice_get}
use Rattle.command_line.specs.Words.{files_behind, files_of, texts}
use Rattle.command_line.proofs.words.file_at.Given as goal

-- the file is among those of the words that are left
abbrev pub invariant-loop-word : goal.invariant-loop-word
invariant-loop-word l =
    slice_get (files_behind l.command l.is_value (texts l.rest)) l.left ≡ slice_get (files_of l.command (texts l.arguments)) l.place

abbrev pub decreases-loop-word : goal.decreases-loop-word
decreases-loop-word l = length l.rest
