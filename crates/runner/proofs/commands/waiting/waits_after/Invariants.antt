use Rattle.std.proofs.Common.{◌≡◌, length}
use Rattle.crash_free.specs.Leftovers.{join_below, left_in}
use Rattle.runner.specs.Waits.{if_waits}
use Rattle.runner.proofs.commands.waiting.waits_after.Given as goal

-- those among the ranks so far
abbrev pub invariant-loop-rank : goal.invariant-loop-rank
invariant-loop-rank l =
    l.ranks.items ≡ join_below (if_waits l.lines l.run.machines (left_in (length l.run.machines) l.run.run)) l.rank
