use Rattle.std.proofs.Common.{rules}
use Rattle.rank_node.proofs.Nodes.{kept_waiting}
use Rattle.rank_node.proofs.running.Running.store_state.Goals as goal

pub invariant_of-self : goal.invariant_of-self
invariant_of-self g c = kept_waiting c.self.inside c.mark_stored.new.self (search rules) c.self.invariant
