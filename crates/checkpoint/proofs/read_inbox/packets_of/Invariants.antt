use Rattle.std.proofs.Common.{◌≡◌, ◌-◌}
use Rattle.checkpoint.specs.Reading.{many_at, packet_at}
use Rattle.checkpoint.proofs.read_inbox.packets_of.Given as goal

abbrev pub invariant-loop : goal.invariant-loop
invariant-loop l = record {
  read : many_at (packet_at l.size l.fn.inbox.accepted) (l.count - l.counter) l.inbox.packets l.rest
      ≡ many_at (packet_at l.size l.fn.inbox.accepted) l.count l.fn.inbox.packets l.bytes;
  stays : l.inbox.accepted ≡ l.fn.inbox.accepted;
}
