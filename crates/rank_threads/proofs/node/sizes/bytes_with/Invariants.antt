use Rattle.std.proofs.Common.{◌≡◌, take}
use Rattle.rank_threads.specs.Costs.{payload_from}
use Rattle.rank_threads.proofs.node.sizes.bytes_with.Given as goal

-- those of the messages so far are counted
abbrev pub invariant-loop-place : goal.invariant-loop-place
invariant-loop-place l = l.bytes ≡ payload_from l.before (take l.place l.backlog.kept)
