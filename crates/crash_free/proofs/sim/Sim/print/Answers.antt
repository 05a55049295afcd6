use Rattle.std.proofs.Common.{None, w64}
use Rattle.std.proofs.lemmas.Int.{to_z-of_z}
use Rattle.rank_machine.specs.declared.want.Want.TheVariants.{Print}
use Rattle.rank_machine.specs.Acts.{prints}
use Rattle.crash_free.proofs.Printing.{lines_more, row_of_rank}
use Rattle.crash_free.proofs.Choosing.{found_machine, done_print, run_push}
use Rattle.crash_free.proofs.sim.Sim.print.Goals as goal

pub invariant_of-self-2 : goal.invariant_of-self-2
invariant_of-self-2 c =
    let at = found_machine (Print c.args.value) c.self.view_is c.from.ensures c.requires.there c.requires.wanted c.index_mut-machine.ensures.value in
    let made = c.law_makes_its_print.ensures c.args.value at.1.at_want in
    let state = c.did_print.ensures.state (prints c.args.value) None made in
    let done = done_print c.self.invariant.0 at.0 at.1 made state c.did_print.ensures.position c.did_print.ensures.stays in
    let same = to_z-of_z w64 c.args.value c.ranges.value in
    let low = row_of_rank c.args.rank c.self.view_is c.self.invariant.0 c.self.invariant.1 c.requires.there in (
      rw (c.from.ensures, c.push_reserved.ensures.items, c.in_ok-reserve.ensures.items, c.prints.ensures, run_push c.self.inside.passed.items _, same) done.kept,
      rw (c.in_ok-push.ensures.ok, c.push_reserved.ensures.items, c.in_ok-reserve.ensures.items, c.prints.ensures, run_push c.self.inside.passed.items _)
          (lines_more _ _ _ _ low c.self.invariant.1),
    )

pub returns-clause-ok : goal.returns-clause-ok
returns-clause-ok c =
    let at = found_machine (Print c.args.value) c.self.view_is c.from.ensures c.requires.there c.requires.wanted c.index_mut-machine.ensures.value in
    let made = c.law_makes_its_print.ensures c.args.value at.1.at_want in
    let state = c.did_print.ensures.state (prints c.args.value) None made in
    let done = done_print c.self.invariant.0 at.0 at.1 made state c.did_print.ensures.position c.did_print.ensures.stays in
    let same = to_z-of_z w64 c.args.value c.ranges.value in
    rw (
      ← c.self.view_is,
      c.from.ensures,
      c.push_reserved.ensures.items,
      c.in_ok-reserve.ensures.items,
      c.prints.ensures,
      run_push c.self.inside.passed.items _,
      same,
    ) done.allowed
