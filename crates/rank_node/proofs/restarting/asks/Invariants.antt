use Rattle.std.proofs.Common.{◌≡◌, map, take}
use Rattle.rank_node.specs.Replay.{ask_after}
use Rattle.rank_node.proofs.restarting.asks.Given as goal

abbrev pub invariant-loop-source : goal.invariant-loop-source
invariant-loop-source l = l.dues.items ≡ map ask_after (take l.source l.fn.inbox.accepted)
