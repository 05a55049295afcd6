use Rattle.std.proofs.Common.{refl}
use Rattle.rank_machine.specs.declared.want.Want.TheVariants.{Receive}
use Rattle.crash_free.proofs.Printing.{lines_stay}
use Rattle.crash_free.proofs.Choosing.{found_machine, run_push}
use Rattle.crash_free.proofs.Finding.{sought, found_by}
use Rattle.crash_free.proofs.Seeking.{receiving}
use Rattle.crash_free.proofs.Finding.{refuses_take, refuses_memory, slot_there, packet_matches, source_there, may_give, done_take}
use Rattle.crash_free.proofs.sim.Sim.receive.Goals as goal

pub returns-in_default-clause-refused : goal.returns-in_default-clause-refused
returns-in_default-clause-refused c =
    let known = sought c.args.rank (Receive c.args.selector.now) c.self.view_is c.self.invariant.0 c.requires.there c.requires.wanted in
    refuses_take c.args.source c.args.index (receiving c.args.selector.now) known c.ranks-ranks.ensures.value (c.in_default.ensures.none refl)

pub returns-then-is_err-clause-refused : goal.returns-then-is_err-clause-refused
returns-then-is_err-clause-refused c =
    let known = sought c.args.rank (Receive c.args.selector.now) c.self.view_is c.self.invariant.0 c.requires.there c.requires.wanted in
    let found = found_by c.args.selector.now known c.ranks-ranks.ensures.value c.in-Some.ensures.source c.in-Some.ensures.index c.in-Some.ensures.first in
    refuses_memory (receiving c.args.selector.now) known found

pub returns-in_default-take-clause-refused : goal.returns-in_default-take-clause-refused
returns-in_default-take-clause-refused c =
    let known = sought c.args.rank (Receive c.args.selector.now) c.self.view_is c.self.invariant.0 c.requires.there c.requires.wanted in
    let found = found_by c.args.selector.now known c.ranks-ranks.ensures.value c.in-Some.ensures.source c.in-Some.ensures.index c.in-Some.ensures.first in
    refuses_memory (receiving c.args.selector.now) known found

pub take-requires-clause-there : goal.take-requires-clause-there
take-requires-clause-there c =
    let known = sought c.args.rank (Receive c.args.selector.now) c.self.view_is c.self.invariant.0 c.requires.there c.requires.wanted in
    let found = found_by c.args.selector.now known c.ranks-ranks.ensures.value c.in-Some.ensures.source c.in-Some.ensures.index c.in-Some.ensures.first in
    slot_there known found

pub give-requires : goal.give-requires
give-requires c =
    let known = sought c.args.rank (Receive c.args.selector.now) c.self.view_is c.self.invariant.0 c.requires.there c.requires.wanted in
    let found = found_by c.args.selector.now known c.ranks-ranks.ensures.value c.in-Some.ensures.source c.in-Some.ensures.index c.in-Some.ensures.first in
    let at = found_machine (Receive c.args.selector.now) c.self.view_is c.from.ensures c.requires.there c.requires.wanted c.index_mut-machine.ensures.value in
    record {
      receiving = may_give c.in-Ok.packet at.1 (packet_matches c.in-Ok.packet found c.in-Ok.ensures.packet);
      source = source_there known found at.0 c.in-Ok.ensures.packet;
    }

pub invariant_of-self-2 : goal.invariant_of-self-2
invariant_of-self-2 c =
    let known = sought c.args.rank (Receive c.args.selector.now) c.self.view_is c.self.invariant.0 c.requires.there c.requires.wanted in
    let found = found_by c.args.selector.now known c.ranks-ranks.ensures.value c.in-Some.ensures.source c.in-Some.ensures.index c.in-Some.ensures.first in
    let at = found_machine (Receive c.args.selector.now) c.self.view_is c.from.ensures c.requires.there c.requires.wanted c.index_mut-machine.ensures.value in
    let done = done_take c.self.invariant.0 at.0 at.1 found c.in-Ok.ensures.packet c.give.ensures.state c.give.ensures.position c.give.ensures.stays in (
      rw (
        c.from.ensures,
        c.in-Ok.ensures.left,
        c.push_reserved.ensures.items,
        c.reserve.ensures.items,
        c.takes.ensures,
        run_push c.self.inside.passed.items _,
      ) done.kept,
      rw (c.push_reserved.ensures.items, c.reserve.ensures.items, c.takes.ensures, run_push c.self.inside.passed.items _)
          (lines_stay _ _ _ _ refl c.self.invariant.1),
    )

pub returns-clause-ok : goal.returns-clause-ok
returns-clause-ok c =
    let known = sought c.args.rank (Receive c.args.selector.now) c.self.view_is c.self.invariant.0 c.requires.there c.requires.wanted in
    let found = found_by c.args.selector.now known c.ranks-ranks.ensures.value c.in-Some.ensures.source c.in-Some.ensures.index c.in-Some.ensures.first in
    let at = found_machine (Receive c.args.selector.now) c.self.view_is c.from.ensures c.requires.there c.requires.wanted c.index_mut-machine.ensures.value in
    let done = done_take c.self.invariant.0 at.0 at.1 found c.in-Ok.ensures.packet c.give.ensures.state c.give.ensures.position c.give.ensures.stays in
    rw (← c.self.view_is, c.from.ensures, c.push_reserved.ensures.items, c.reserve.ensures.items, c.takes.ensures, run_push c.self.inside.passed.items _)
    done.allowed
