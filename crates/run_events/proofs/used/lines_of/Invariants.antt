use Rattle.std.proofs.Common.{◌≡◌, ◌++◌, length}
use Rattle.rank_text.specs.Scripts.Script.{orders_of}
use Rattle.run_events.proofs.used.lines_of.Given as goal

-- the lines so far and those of the rest are all of the rank
abbrev pub invariant-loop-rest : goal.invariant-loop-rest
invariant-loop-rest l = l.lines.items ++ orders_of l.rank l.rest ≡ orders_of l.rank l.script

abbrev pub decreases-loop-rest : goal.decreases-loop-rest
decreases-loop-rest l = length l.rest
