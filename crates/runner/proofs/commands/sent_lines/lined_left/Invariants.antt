use Rattle.std.proofs.Common.{◌≡◌, reverse}
use Rattle.crash_free.specs.Leftovers.{join_below}
use Rattle.runner.specs.SentLines.{sent_to}
use Rattle.runner.proofs.commands.sent_lines.lined_left.Given as goal

-- those to the ranks so far
abbrev pub invariant-loop-rank : goal.invariant-loop-rank
invariant-loop-rank l = l.positions.items ≡ join_below (sent_to l.ranks (reverse l.run.run) l.places.items l.left.items) l.rank
