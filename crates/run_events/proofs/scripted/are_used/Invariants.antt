use Rattle.std.proofs.Common.{◌≡◌, ℕ, ◌<◌, ◌-◌}
use Rattle.rank_text.specs.Scripts.Script.{orders_of}
use Rattle.run_events.specs.Scripted.{used_lines}
use Rattle.run_events.proofs.scripted.are_used.Given as goal

-- the ranks so far
abbrev pub invariant-loop-rank : goal.invariant-loop-rank
invariant-loop-rank l = (r : ℕ) → r < l.rank → orders_of r l.lines ≡ used_lines l.script l.unused r

abbrev pub decreases-loop-rank : goal.decreases-loop-rank
decreases-loop-rank l = l.ranks - l.rank
