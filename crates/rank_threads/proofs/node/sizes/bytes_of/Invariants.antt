use Rattle.std.proofs.Common.{◌≡◌, length}
use Rattle.rank_threads.specs.Costs.{bytes_from}
use Rattle.rank_threads.proofs.node.sizes.bytes_of.Given as goal

-- what is left is counted on
abbrev pub invariant-loop-rest : goal.invariant-loop-rest
invariant-loop-rest l = bytes_from l.bytes l.rest ≡ bytes_from 0 l.log

abbrev pub decreases-loop-rest : goal.decreases-loop-rest
decreases-loop-rest l = length l.rest
