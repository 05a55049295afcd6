use Rattle.std.proofs.Common.{rules, ◌<◌, length}
use Rattle.rank_node.proofs.Sent.{log_pruned}
use Rattle.rank_node.proofs.Nodes.{kept_ranks}
use Rattle.rank_node.proofs.running.Running.arrive.Goals as goal

pub invariant_of-self-in-Kept : goal.invariant_of-self-in-Kept
invariant_of-self-in-Kept g c =
    let log = c.self.inside.log in
    let below : c.args.from < length c.self.inside.log = search rules in
    let sent = log_pruned c.self.inside.stable.rank c.self.inside.clock log c.args.from c.in-Kept.upto below c.self.invariant.sent in
    search rules

pub invariant_of-self : goal.invariant_of-self
invariant_of-self g c = kept_ranks c.self.inside c.accept.new.self c.accept.ensures.size c.self.invariant
