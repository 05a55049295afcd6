use Rattle.std.proofs.Common.{◌<◌, None, length, ap, refl}
use Rattle.rank_machine.specs.declared.want.Want.TheVariants.{Send}
use Rattle.crash_free.specs.Sim.{SimValue}
use Rattle.crash_free.proofs.Printing.{lines_stay}
use Rattle.crash_free.proofs.Choosing.{found_machine, done_send, run_push}
use Rattle.crash_free.proofs.sim.Sim.send.Goals as goal

pub invariant_of-self-2 : goal.invariant_of-self-2
invariant_of-self-2 c =
    let at = found_machine (Send c.args.dest c.args.context c.args.tag) c.self.view_is c.from.ensures c.requires.there c.requires.wanted
    c.index_mut-machine.ensures.value in
    let legal : c.args.dest < length c.self.inside.machines.items = rw (ap (λ (v : SimValue). length v.machines) c.self.view_is) c.requires.legal.0 in
    let made = c.law_makes_its_send.ensures c.args.dest c.args.context c.args.tag at.1.at_want in
    let done = done_send c.self.invariant.0 at.0 at.1 legal made (c.did_send.ensures.state _ None made) c.did_send.ensures.position c.did_send.ensures.stays in (
      rw (
        c.from.ensures,
        c.in_ok-post.ensures.ok,
        c.packet-packet.ensures,
        c.push_reserved.ensures.items,
        c.in_ok-reserve.ensures.items,
        c.sends-act.ensures,
        run_push c.self.inside.passed.items _,
        c.in_ok-items.ensures.ok,
        c.as_slice.ensures,
        c.in_ok-payload.ensures.items,
      ) done.kept,
      rw (c.push_reserved.ensures.items, c.in_ok-reserve.ensures.items, c.sends-act.ensures, run_push c.self.inside.passed.items _)
          (lines_stay _ _ _ _ refl c.self.invariant.1),
    )

pub returns-clause-ok : goal.returns-clause-ok
returns-clause-ok c =
    let at = found_machine (Send c.args.dest c.args.context c.args.tag) c.self.view_is c.from.ensures c.requires.there c.requires.wanted
    c.index_mut-machine.ensures.value in
    let legal : c.args.dest < length c.self.inside.machines.items = rw (ap (λ (v : SimValue). length v.machines) c.self.view_is) c.requires.legal.0 in
    let made = c.law_makes_its_send.ensures c.args.dest c.args.context c.args.tag at.1.at_want in
    let done = done_send c.self.invariant.0 at.0 at.1 legal made (c.did_send.ensures.state _ None made) c.did_send.ensures.position c.did_send.ensures.stays in
    rw (
      ← c.self.view_is,
      c.from.ensures,
      c.push_reserved.ensures.items,
      c.in_ok-reserve.ensures.items,
      c.sends-act.ensures,
      run_push c.self.inside.passed.items _,
      c.in_ok-items.ensures.ok,
      c.as_slice.ensures,
      c.in_ok-payload.ensures.items,
    ) done.allowed
