use Rattle.std.proofs.Common.{◌≤◌, ◌∙◌, length, ap, subst, sym}
use Rattle.crash_free.specs.Points.{replaced}
use Rattle.crash_free.proofs.Points.{as_many, still_unmoved, went_back}
use Rattle.crash_free.proofs.sim.Sim.go_back.Goals as goal

pub copy_moved-requires-clause-ranks : goal.copy_moved-requires-clause-ranks
copy_moved-requires-clause-ranks c = rw (c.deref.ensures.value, c.deref-2.ensures.value) (as_many c.self.view_is c.point.view_is c.requires.point)

pub copy_moved-requires-clause-unmoved : goal.copy_moved-requires-clause-unmoved
copy_moved-requires-clause-unmoved c =
    rw (c.deref.ensures.value, c.deref-2.ensures.value) (still_unmoved c.args.unmoved.now c.self.view_is c.point.view_is c.requires.unmoved)

pub replace-requires : goal.replace-requires
replace-requires c = subst (λ xs. length c.in_ok-machines.machines.items ≤ length xs) c.deref.ensures.value c.in_ok-machines.ensures.count

pub invariant_of-self-2 : goal.invariant_of-self-2
invariant_of-self-2 c =
    let went = went_back c.self.inside.passed.items c.self.view_is c.point.view_is c.requires.point in
    let machines = c.replace.ensures ∙ ap (λ xs. replaced xs c.in_ok-machines.machines.items) (sym c.deref.ensures.value)
    ∙ c.in_ok-machines.ensures.replaced ∙ c.deref-2.ensures.value in (
      rw (machines, c.in_ok-mail.ensures, c.in_ok-since.ensures.items, ap (λ v. v.program) c.self.view_is) went.kept,
      rw (c.in_ok-lines.ensures, c.in_ok-since.ensures.items) went.lines,
    )

pub returns-clause-back : goal.returns-clause-back
returns-clause-back c =
    let went = went_back c.self.inside.passed.items c.self.view_is c.point.view_is c.requires.point in
    let machines = c.replace.ensures ∙ ap (λ xs. replaced xs c.in_ok-machines.machines.items) (sym c.deref.ensures.value)
    ∙ c.in_ok-machines.ensures.replaced ∙ c.deref-2.ensures.value in
    rw (machines, c.in_ok-since.ensures.items, ap (λ v. v.program) c.self.view_is) went.back

pub returns-clause-since : goal.returns-clause-since
returns-clause-since c =
    let went = went_back c.self.inside.passed.items c.self.view_is c.point.view_is c.requires.point in
    rw (c.in_ok-since.ensures.tail, c.in_ok-since.ensures.items) went.since

pub returns-clause-stands : goal.returns-clause-stands
returns-clause-stands c =
    let went = went_back c.self.inside.passed.items c.self.view_is c.point.view_is c.requires.point in
    let machines = c.replace.ensures ∙ ap (λ xs. replaced xs c.in_ok-machines.machines.items) (sym c.deref.ensures.value)
    ∙ c.in_ok-machines.ensures.replaced ∙ c.deref-2.ensures.value in
    rw (machines, c.in_ok-since.ensures.items, ap (λ v. v.program) c.self.view_is) went.kept.simulates
