use Rattle.std.proofs.Common.{◌≡◌, length}
use Rattle.command_line.specs.Requests.{has_request}
use Rattle.command_line.specs.Words.{texts}
use Rattle.command_line.proofs.requests.has_request.Given as goal

-- the words that are left decide
abbrev pub invariant-loop-word : goal.invariant-loop-word
invariant-loop-word l = has_request (texts l.rest) ≡ has_request (texts l.words)

abbrev pub decreases-loop-word : goal.decreases-loop-word
decreases-loop-word l = length l.rest
