use Rattle.std.proofs.Common.{length}
use Rattle.run_events.proofs.WithScript.{IsTaking}
use Rattle.run_events.proofs.scripted.taken.Given as goal

-- the lines so far come from the events so far
abbrev pub invariant-loop-rest : goal.invariant-loop-rest
invariant-loop-rest l = IsTaking l.fn.world l.events l.world l.rest l.lines.items

abbrev pub decreases-loop-rest : goal.decreases-loop-rest
decreases-loop-rest l = length l.rest
