use Rattle.std.proofs.Common.{rules}
use Rattle.matching.specs.Matching.{is_named}
use Rattle.matching.specs.Queue.{first_place}
use Rattle.rank_node.proofs.Found.{found-at, takes_found}
use Rattle.rank_node.proofs.Joining.{made_next}
use Rattle.rank_node.proofs.Sent.{log_later}
use Rattle.rank_node.proofs.running.Running.take_again.Goals as goal

pub give-requires-clause-receiving : goal.give-requires-clause-receiving
give-requires-clause-receiving g c =
    let test = is_named c.sender.result c.sender_clock.result in
    let ms = c.self.inside.inbox.packets in
    let there = found-at test ms (first_place test ms) c.in-Some.packet c.in-Some.ensures.place c.in-Some.ensures.there in
    search rules

pub returns-clause-machine : goal.returns-clause-machine
returns-clause-machine g c =
    let test = is_named c.sender.result c.sender_clock.result in
    let ms = c.self.inside.inbox.packets in
    let took = takes_found test ms (first_place test ms) c.in-Some.packet c.self.inside.machine c.give.new.self
    c.in-Some.ensures.place c.in-Some.ensures.there c.give.ensures.state c.give.ensures.position c.give.ensures.stays
    in search rules

pub invariant_of-self : goal.invariant_of-self
invariant_of-self g c =
    let sent = log_later c.self.inside.stable.rank c.self.inside.clock c.self.inside.log c.self.invariant.sent in
    let made = made_next c.self.inside.clock c.self.inside.pending.waiting c.self.invariant.events in
    search rules
