-- Arithmetic in the range of values, for what an expression is all along.
use Rattle.rank_machine.proofs.Ranges.{in_range-fits, in_range-else}

pub ruleset ranges = (in_range-fits, in_range-else)
