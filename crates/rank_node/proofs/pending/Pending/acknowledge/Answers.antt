use Rattle.std.proofs.Common.{rules}
use Rattle.rank_node.proofs.Gates.{begins_first}
use Rattle.rank_node.proofs.pending.Pending.acknowledge.Goals as goal

pub returns-clause-first : goal.returns-clause-first
returns-clause-first c =
    let first = begins_first c.self.inside.stored c.self.inside.waiting.items (search rules) c.self.invariant.0 in
    search rules
