use Rattle.std.proofs.Common.{rules}
use Rattle.matching.specs.Matching.{is_named}
use Rattle.matching.specs.Queue.{first_place}
use Rattle.rank_node.proofs.Found.{found-at, was_shown}
use Rattle.rank_node.proofs.Nodes.{act_made}
use Rattle.rank_node.proofs.running.Running.show_again.Goals as goal

pub show-requires-clause-showing : goal.show-requires-clause-showing
show-requires-clause-showing g c =
    let test = is_named c.sender.result c.sender_clock.result in
    let ms = c.self.inside.inbox.packets in
    let there = found-at test ms (first_place test ms) c.in-Some.packet.now c.in-Some.ensures.place c.in-Some.ensures.there in
    search rules

pub returns-clause-machine : goal.returns-clause-machine
returns-clause-machine g c =
    let test = is_named c.sender.result c.sender_clock.result in
    let ms = c.self.inside.inbox.packets in
    let shown = was_shown test ms (first_place test ms) c.in-Some.packet.now c.self.inside.machine c.show.new.self
    c.in-Some.ensures.place c.in-Some.ensures.there c.show.ensures.state c.show.ensures.position c.show.ensures.stays
    in search rules

-- src/replay/probes.rt
pub invariant_of-self : goal.invariant_of-self
invariant_of-self g c = act_made c.self.inside c.show.new.self c.show.ensures.stays (search rules) c.self.invariant
