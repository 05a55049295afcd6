use Rattle.std.proofs.Common.{◌≡◌, ◌-◌, [], length}
use Rattle.payload_log.specs.Backlog.{AreNumbered}
use Rattle.checkpoint.specs.Reading.{many_at, kept_at, last_clock}
use Rattle.checkpoint.proofs.read_log.packets_of.Given as goal

abbrev pub invariant-loop-place : goal.invariant-loop-place
invariant-loop-place l = record {
  read : many_at (kept_at l.rank l.most l.base) (l.count - l.place) l.packets.items l.rest ≡ many_at (kept_at l.rank l.most l.base) l.count
      [] l.bytes;
  count : length l.packets.items ≡ l.place;
  numbered : AreNumbered l.base l.packets.items;
  above : l.above ≡ last_clock l.packets.items;
}
