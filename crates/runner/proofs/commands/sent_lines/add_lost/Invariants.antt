use Rattle.std.proofs.Common.{◌≡◌, ◌+◌, [], length}
use Rattle.runner.specs.SentLines.{after_acts}
use Rattle.runner.proofs.commands.sent_lines.add_lost.Given as goal

-- what the acts that are left make of the sends so far, all make of none
abbrev pub invariant-loop-rest : goal.invariant-loop-rest
invariant-loop-rest l = record {
  within : l.index + length l.rest ≡ length l.acts;
  whole : after_acts l.source l.rank l.places l.pending.items l.index l.rest ≡ after_acts l.source l.rank l.places [] 0 l.acts;
}

abbrev pub decreases-loop-rest : goal.decreases-loop-rest
decreases-loop-rest l = length l.rest
