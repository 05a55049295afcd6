use Rattle.std.proofs.Common.{◌≡◌, length}
use Rattle.rank_text.specs.Scripts.Script.{orders_of}
use Rattle.run_events.proofs.scripted.are_lines_of.Given as goal

-- it comes down to those that are left
abbrev pub invariant-loop-rest : goal.invariant-loop-rest
invariant-loop-rest l = orders_of l.rank l.rest ≡ l.left → orders_of l.rank l.lines ≡ l.own

abbrev pub decreases-loop-rest : goal.decreases-loop-rest
decreases-loop-rest l = length l.rest
