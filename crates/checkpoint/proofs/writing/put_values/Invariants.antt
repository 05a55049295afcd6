use Rattle.std.specs.Prelude.{FitsSigned}
use Rattle.std.specs.Int.{w64}
use Rattle.checkpoint.specs.Spelling.{value}
use Rattle.checkpoint.proofs.Written.{IsWritten}
use Rattle.checkpoint.proofs.writing.put_values.Given as goal

abbrev pub invariant-loop-n : goal.invariant-loop-n
invariant-loop-n l = IsWritten value (FitsSigned w64) l.fn.out.items l.out.items l.items l.n-index
