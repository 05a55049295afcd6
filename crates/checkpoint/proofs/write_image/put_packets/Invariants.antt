use Rattle.matching.specs.Packets.{left}
use Rattle.checkpoint.specs.Spelling.{packet}
use Rattle.checkpoint.specs.Legal.{IsPacket}
use Rattle.checkpoint.proofs.Written.{IsLeft}
use Rattle.checkpoint.proofs.write_image.put_packets.Given as goal

abbrev pub invariant-loop-p : goal.invariant-loop-p
invariant-loop-p l =
    goal.iterator-loop-p.can_next l.p-iterator × goal.iterator-loop-p.is_finite l.p-iterator
    × IsLeft packet IsPacket l.fn.out.items l.out.items (left l.fn.packets) (left l.p-iterator)
