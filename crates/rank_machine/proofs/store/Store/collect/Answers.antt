use Rattle.std.proofs.Common.{◌<◌, subst}
use Rattle.rank_language.specs.Seen.{collective_of}
use Rattle.rank_machine.specs.Calling.{call_of}
use Rattle.rank_machine.proofs.Taking.{has_room}
use Rattle.rank_machine.proofs.store.Store.collect.Goals as goal

pub keep-requires-clause-room : goal.keep-requires-clause-room
keep-requires-clause-room c =
    let s = c.args.self.now in
    let x = collective_of c.args.collective.now in
    let l = subst (λ s. s.rank < s.size) c.self.view_is c.self.invariant.0 in
    has_room s x (call_of s x c.args.call) c.args.packet.now c.in_ok-items.items.now l c.requires.called c.requires.stage c.in_ok-items.ensures.given
