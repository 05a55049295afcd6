use Rattle.std.proofs.Common.{refl}
use Rattle.rank_machine.specs.declared.want.Want.TheVariants.{TryProbe}
use Rattle.crash_free.proofs.Printing.{lines_stay}
use Rattle.crash_free.proofs.Choosing.{found_machine, may_miss, done_miss, run_push}
use Rattle.crash_free.proofs.sim.Sim.miss.Goals as goal

pub miss-requires : goal.miss-requires
miss-requires c =
    let at = found_machine (TryProbe c.requires.wanted.0) c.self.view_is c.from.ensures c.requires.there c.requires.wanted.1
    c.index_mut-machine.ensures.value in
    may_miss at.1

pub invariant_of-self-2 : goal.invariant_of-self-2
invariant_of-self-2 c =
    let at = found_machine (TryProbe c.requires.wanted.0) c.self.view_is c.from.ensures c.requires.there c.requires.wanted.1
    c.index_mut-machine.ensures.value in
    let made = c.law_makes_its_miss.ensures (may_miss at.1) in
    let done = done_miss c.self.invariant.0 at.0 at.1 made c.miss.ensures.state c.miss.ensures.position c.miss.ensures.stays in (
      rw (c.from.ensures, c.push_reserved.ensures.items, c.in_ok-reserve.ensures.items, c.misses.ensures, run_push c.self.inside.passed.items _) done.kept,
      rw (c.push_reserved.ensures.items, c.in_ok-reserve.ensures.items, c.misses.ensures, run_push c.self.inside.passed.items _)
          (lines_stay _ _ _ _ refl c.self.invariant.1),
    )

pub returns-clause-ok : goal.returns-clause-ok
returns-clause-ok c =
    let at = found_machine (TryProbe c.requires.wanted.0) c.self.view_is c.from.ensures c.requires.there c.requires.wanted.1
    c.index_mut-machine.ensures.value in
    let made = c.law_makes_its_miss.ensures (may_miss at.1) in
    let done = done_miss c.self.invariant.0 at.0 at.1 made c.miss.ensures.state c.miss.ensures.position c.miss.ensures.stays in
    rw (← c.self.view_is, c.from.ensures, c.push_reserved.ensures.items, c.in_ok-reserve.ensures.items, c.misses.ensures, run_push c.self.inside.passed.items _)
    done.allowed
