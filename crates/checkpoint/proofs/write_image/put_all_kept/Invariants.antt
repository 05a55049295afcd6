use Rattle.checkpoint.specs.Spelling.{kept}
use Rattle.checkpoint.specs.Legal.{IsPacket}
use Rattle.checkpoint.proofs.Written.{IsWritten}
use Rattle.checkpoint.proofs.write_image.put_all_kept.Given as goal

abbrev pub invariant-loop-place : goal.invariant-loop-place
invariant-loop-place l = IsWritten kept IsPacket l.fn.out.items l.out.items l.l.kept l.place
