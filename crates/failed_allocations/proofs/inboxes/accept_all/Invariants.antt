use Rattle.std.proofs.Common.{◌≡◌, length}
use Rattle.failed_allocations.proofs.inboxes.accept_all.Given as goal

-- the inbox is of two ranks
abbrev pub invariant-loop-arrival : goal.invariant-loop-arrival
invariant-loop-arrival l = length l.inbox.accepted ≡ 2
