use Rattle.rank_node.proofs.Nodes.{first_acked}
use Rattle.rank_node.proofs.running.Running.ack.Goals as goal

pub invariant_of-self : goal.invariant_of-self
invariant_of-self g c =
    first_acked c.self.inside c.acknowledge.new.self c.acknowledge.result c.acknowledge.ensures.acked c.acknowledge.ensures.first
    c.acknowledge.ensures.none c.self.invariant
