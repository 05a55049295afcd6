use Rattle.crash_free.specs.declared.choice.Choice.TheVariants as choice
use Rattle.std.proofs.Common.{◌∙◌, ◌≤◌, sym, ap, subst, arith, w64}
use Rattle.limits.specs.Limits.{greatest_clock}
use Rattle.std.proofs.lemmas.Int.{to_z-of_z}
use Rattle.audit.specs.Trace.{with_line}
use Rattle.audit.proofs.Playing.{plays_print}
use Rattle.audit.proofs.GoingAhead.{spends_allowed, rows_printed}
use Rattle.audit.proofs.Refusing.{no_clock}
use Rattle.audit.proofs.Steps.{on_ok, printed_one, trace_there}
use Rattle.audit.proofs.auditor.Auditor.print.Goals as goal

pub returns-clause-goes : goal.returns-clause-goes
returns-clause-goes c =
    let was = sym c.in_ok-was_allowed.ensures.ok ∙ c.if-not-branch.false in
    let same = to_z-of_z w64 c.args.value c.ranges.value in
    printed_one c.args.self.now.sim c.act.new.self c.args.self.now.traces.items c.args.rank c.args.value c.in-Some.clock c.from-place.result
    c.index_mut.result.now c.index.result.now c.note_line.new.self c.requires.keeps c.requires.rank c.from-place.ensures c.index.ensures
    c.index_mut.ensures.value c.requires.wanted (on_ok c.act.result _ was c.act.ensures.ok) c.act.ensures.ranks c.act.ensures.stands c.in-Some.ensures.some
    (c.in_ok-note_line.ensures ∙ ap (λ v. with_line c.index_mut.result.now c.in-Some.clock v) same)

pub returns-in_default-clause-none : goal.returns-in_default-clause-none
returns-in_default-clause-none c = λ no o.
    let trace = trace_there c.args.self.now.sim c.args.self.now.traces.items c.args.rank c.from-place.result c.index.result.now c.requires.keeps c.requires.rank
    c.from-place.ensures c.index.ensures in
    no_clock o c.args.self.now.sim c.args.rank (subst (λ k. greatest_clock ≤ k) trace.clock c.in_default.ensures.none)

pub returns-clause-made : goal.returns-clause-made
returns-clause-made c = λ yes o next k.
    let was = sym c.in_ok-was_allowed.ensures.ok ∙ c.if-not-branch.false in
    let few = c.in-Some.ensures.few in
    let next_clock = c.in-Some.ensures.some in
    let trace = trace_there c.args.self.now.sim c.args.self.now.traces.items c.args.rank c.from-place.result c.index.result.now c.requires.keeps c.requires.rank
    c.from-place.ensures c.index.ensures in
    let clock = trace.clock in
    plays_print c.args.self.now.sim c.act.new.self c.args.rank c.args.value c.requires.wanted (on_ok c.act.result _ was c.act.ensures.ok)
    (omega (arith, few, next_clock, clock)) o next k

pub returns-clause-rows : goal.returns-clause-rows
returns-clause-rows c = λ yes.
    (let was = sym c.in_ok-was_allowed.ensures.ok ∙ c.if-not-branch.false in
    rows_printed c.args.self.now.sim c.act.new.self c.args.rank c.args.value c.requires.wanted (on_ok c.act.result _ was c.act.ensures.ok))

pub returns-clause-spends : goal.returns-clause-spends
returns-clause-spends c = λ yes k.
    (let was = sym c.in_ok-was_allowed.ensures.ok ∙ c.if-not-branch.false in
    let few = c.in-Some.ensures.few in
    let next_clock = c.in-Some.ensures.some in
    let trace = trace_there c.args.self.now.sim c.args.self.now.traces.items c.args.rank c.from-place.result c.index.result.now c.requires.keeps c.requires.rank
    c.from-place.ensures c.index.ensures in
    let clock = trace.clock in
    spends_allowed c.args.self.now.sim c.act.new.self c.args.rank choice.Next _ c.requires.wanted (λ e. cc)
    (on_ok c.act.result _ was c.act.ensures.ok) (omega (arith, few, next_clock, clock)) k)
