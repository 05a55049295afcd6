use Rattle.checkpoint.specs.Spelling.{lane}
use Rattle.checkpoint.specs.Legal.{IsStored}
use Rattle.checkpoint.proofs.Written.{IsWritten}
use Rattle.checkpoint.proofs.write_image.put_lanes.Given as goal

abbrev pub invariant-loop-l : goal.invariant-loop-l
invariant-loop-l l = IsWritten lane IsStored l.fn.out.items l.out.items l.log l.l-index
