use Rattle.std.proofs.Common.{length}
use Rattle.run_events.specs.Plays.{ArePlain}
use Rattle.run_events.proofs.playing.are_plain.Given as goal

-- it comes down to those that are left
abbrev pub invariant-loop-rest : goal.invariant-loop-rest
invariant-loop-rest l = ArePlain l.rest → ArePlain l.events

abbrev pub decreases-loop-rest : goal.decreases-loop-rest
decreases-loop-rest l = length l.rest
