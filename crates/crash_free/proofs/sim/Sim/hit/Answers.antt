use Rattle.std.proofs.Common.{refl}
use Rattle.crash_free.proofs.Printing.{lines_stay}
use Rattle.crash_free.proofs.Choosing.{found_machine, run_push}
use Rattle.crash_free.proofs.Finding.{sought, found_by}
use Rattle.crash_free.proofs.Finding.{probes_there, refuses_take, refuses_memory, slot_there, packet_matches, source_there, may_show, done_hit}
use Rattle.crash_free.proofs.sim.Sim.hit.Goals as goal

pub returns-in_default-clause-refused : goal.returns-in_default-clause-refused
returns-in_default-clause-refused c =
    let p = probes_there c.args.self.now.machines c.args.rank c.args.selector.now c.requires.wanted in
    let known = sought c.args.rank p.want c.self.view_is c.self.invariant.0 c.requires.there p.wanted in
    refuses_take c.args.source c.args.index p.seeks known c.ranks-ranks.ensures.value (c.in_default.ensures.none refl)

pub returns-then-is_err-clause-refused : goal.returns-then-is_err-clause-refused
returns-then-is_err-clause-refused c =
    let p = probes_there c.args.self.now.machines c.args.rank c.args.selector.now c.requires.wanted in
    let known = sought c.args.rank p.want c.self.view_is c.self.invariant.0 c.requires.there p.wanted in
    let found = found_by c.args.selector.now known c.ranks-ranks.ensures.value c.in-Some.ensures.source c.in-Some.ensures.index c.in-Some.ensures.first in
    refuses_memory p.seeks known found

pub look-packet-requires-clause-there : goal.look-packet-requires-clause-there
look-packet-requires-clause-there c =
    let p = probes_there c.args.self.now.machines c.args.rank c.args.selector.now c.requires.wanted in
    let known = sought c.args.rank p.want c.self.view_is c.self.invariant.0 c.requires.there p.wanted in
    let found = found_by c.args.selector.now known c.ranks-ranks.ensures.value c.in-Some.ensures.source c.in-Some.ensures.index c.in-Some.ensures.first in
    slot_there known found

pub show-requires : goal.show-requires
show-requires c =
    let p = probes_there c.args.self.now.machines c.args.rank c.args.selector.now c.requires.wanted in
    let known = sought c.args.rank p.want c.self.view_is c.self.invariant.0 c.requires.there p.wanted in
    let found = found_by c.args.selector.now known c.ranks-ranks.ensures.value c.in-Some.ensures.source c.in-Some.ensures.index c.in-Some.ensures.first in
    let at = found_machine p.want c.self.view_is c.from.ensures c.requires.there p.wanted c.index_mut-machine.ensures.value in
    record {
      showing = may_show c.look-packet.result.now at.1 (p.shows c.look-packet.result.now
          (packet_matches c.look-packet.result.now found c.look-packet.ensures));
      source = source_there known found at.0 c.look-packet.ensures;
    }

pub invariant_of-self-2 : goal.invariant_of-self-2
invariant_of-self-2 c =
    let p = probes_there c.args.self.now.machines c.args.rank c.args.selector.now c.requires.wanted in
    let known = sought c.args.rank p.want c.self.view_is c.self.invariant.0 c.requires.there p.wanted in
    let found = found_by c.args.selector.now known c.ranks-ranks.ensures.value c.in-Some.ensures.source c.in-Some.ensures.index c.in-Some.ensures.first in
    let at = found_machine p.want c.self.view_is c.from.ensures c.requires.there p.wanted c.index_mut-machine.ensures.value in
    let done = done_hit p.seeks c.self.invariant.0 at.0 at.1 found c.look-packet.ensures c.show.ensures.state c.show.ensures.position c.show.ensures.stays in (
      rw (c.from.ensures, c.push_reserved.ensures.items, c.reserve.ensures.items, c.hits.ensures, run_push c.self.inside.passed.items _)
          done.kept,
      rw (c.push_reserved.ensures.items, c.reserve.ensures.items, c.hits.ensures, run_push c.self.inside.passed.items _)
          (lines_stay _ _ _ _ refl c.self.invariant.1),
    )

pub returns-clause-ok : goal.returns-clause-ok
returns-clause-ok c =
    let p = probes_there c.args.self.now.machines c.args.rank c.args.selector.now c.requires.wanted in
    let known = sought c.args.rank p.want c.self.view_is c.self.invariant.0 c.requires.there p.wanted in
    let found = found_by c.args.selector.now known c.ranks-ranks.ensures.value c.in-Some.ensures.source c.in-Some.ensures.index c.in-Some.ensures.first in
    let at = found_machine p.want c.self.view_is c.from.ensures c.requires.there p.wanted c.index_mut-machine.ensures.value in
    let done = done_hit p.seeks c.self.invariant.0 at.0 at.1 found c.look-packet.ensures c.show.ensures.state c.show.ensures.position c.show.ensures.stays in
    rw (← c.self.view_is, c.from.ensures, c.push_reserved.ensures.items, c.reserve.ensures.items, c.hits.ensures, run_push c.self.inside.passed.items _)
    done.allowed
