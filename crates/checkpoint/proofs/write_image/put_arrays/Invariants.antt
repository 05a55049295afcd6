use Rattle.std.specs.Prelude.{All, FitsSigned}
use Rattle.std.specs.Int.{w64}
use Rattle.checkpoint.specs.Spelling.{values}
use Rattle.checkpoint.proofs.Written.{IsWritten}
use Rattle.checkpoint.proofs.write_image.put_arrays.Given as goal

abbrev pub invariant-loop-array : goal.invariant-loop-array
invariant-loop-array l = IsWritten values (All (FitsSigned w64)) l.fn.out.items l.out.items l.arrays l.array-index
