use Rattle.std.proofs.Common.{rules}
use Rattle.rank_node.proofs.Nodes.{act_made}
use Rattle.rank_node.proofs.running.Running.miss_again.Goals as goal

pub invariant_of-self : goal.invariant_of-self
invariant_of-self g c = act_made c.self.inside c.miss.new.self c.miss.ensures.stays (search rules) c.self.invariant
