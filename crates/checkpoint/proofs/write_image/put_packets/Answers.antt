use Rattle.matching.specs.Packets.{left}
use Rattle.checkpoint.specs.Spelling.{packet}
use Rattle.checkpoint.specs.Legal.{IsPacket}
use Rattle.checkpoint.proofs.Written.{writes_left}
use Rattle.checkpoint.proofs.write_image.put_packets.Goals as goal

-- src/write_image.rt
pub loop-p-preserved : goal.loop-p-preserved
loop-p-preserved c = (
  record {},
  record {},
  writes_left packet IsPacket c.args.out.now.items c.loop-p.out.items c.put_packet.new.out.items (left c.args.packets) (left c.loop-p.p-iterator)
      (left c.next.new.self) c.in-Some.p.now c.in-Some.ensures.steps c.in_ok-put_packet.ensures.spelled c.in_ok-put_packet.ensures.packet c.loop-p.invariant.2,
)
