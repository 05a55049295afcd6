use Rattle.std.proofs.Common.{◌≡◌, ◌+◌, length, slice_get}
use Rattle.runner.specs.Apart.{prints_from}
use Rattle.runner.proofs.commands.apart.position_of_print.Given as goal

-- the print is the one of the number that is left among the acts that are left
abbrev pub invariant-loop-rest : goal.invariant-loop-rest
invariant-loop-rest l = record {
  within : l.index + length l.rest ≡ length l.acts;
  whole : slice_get (prints_from l.rank l.places l.index l.rest) l.left ≡ slice_get (prints_from l.rank l.places 0 l.acts) l.number;
}

abbrev pub decreases-loop-rest : goal.decreases-loop-rest
decreases-loop-rest l = length l.rest
