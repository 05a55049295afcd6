use Rattle.std.proofs.Common.{ℕ, ◌<◌}
use Rattle.rank_node.specs.declared.fault.NodeFault.{NodeFault}
use Rattle.bare_world.specs.Finished.{IsSpent}
use Rattle.world_model.proofs.world.World.spent.Given as goal

abbrev pub invariant-loop-rank : goal.invariant-loop-rank
invariant-loop-rank l = (r : ℕ) → r < l.rank → (fault : NodeFault) → IsSpent l.self r fault → ⊥
