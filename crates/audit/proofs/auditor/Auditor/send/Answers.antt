use Rattle.crash_free.specs.declared.choice.Choice.TheVariants as choice
use Rattle.std.proofs.Common.{◌∙◌, ◌≤◌, sym, subst, arith}
use Rattle.limits.specs.Limits.{greatest_clock}
use Rattle.audit.proofs.Steps.{on_ok, sent_one, trace_there}
use Rattle.audit.proofs.Playing.{plays_send, send_apart}
use Rattle.audit.proofs.GoingAhead.{spends_allowed, rows_sent}
use Rattle.audit.proofs.Refusing.{no_clock}
use Rattle.audit.proofs.auditor.Auditor.send.Goals as goal

pub returns-clause-goes : goal.returns-clause-goes
returns-clause-goes c =
    let was = sym c.in_ok-was_allowed.ensures.ok ∙ c.if-not-branch.false in
    sent_one c.args.self.now.sim c.act.new.self c.args.self.now.traces.items c.args.rank c.args.want c.args.dest c.in-Some.clock c.from-place.result
    c.index_mut.result.now c.index.result.now c.note_send.new.self c.requires.keeps c.requires.rank c.from-place.ensures c.index.ensures
    c.index_mut.ensures.value c.requires.wanted c.requires.sends (on_ok c.act.result _ was c.act.ensures.ok) c.act.ensures.ranks c.act.ensures.stands
    c.in-Some.ensures.some c.in_ok-note_send.ensures

pub returns-clause-made : goal.returns-clause-made
returns-clause-made c = λ yes o k.
    let was = sym c.in_ok-was_allowed.ensures.ok ∙ c.if-not-branch.false in
    let few = c.in-Some.ensures.few in
    let next_clock = c.in-Some.ensures.some in
    let trace = trace_there c.args.self.now.sim c.args.self.now.traces.items c.args.rank c.from-place.result c.index.result.now c.requires.keeps c.requires.rank
    c.from-place.ensures c.index.ensures in
    let clock = trace.clock in
    plays_send c.args.self.now.sim c.act.new.self c.args.rank c.args.dest c.args.want c.requires.wanted c.requires.sends
    (on_ok c.act.result _ was c.act.ensures.ok) (omega (arith, few, next_clock, clock)) o k

pub returns-in_default-clause-none : goal.returns-in_default-clause-none
returns-in_default-clause-none c = λ no o.
    let trace = trace_there c.args.self.now.sim c.args.self.now.traces.items c.args.rank c.from-place.result c.index.result.now c.requires.keeps c.requires.rank
    c.from-place.ensures c.index.ensures in
    no_clock o c.args.self.now.sim c.args.rank (subst (λ k. greatest_clock ≤ k) trace.clock c.in_default.ensures.none)

pub note_send-requires : goal.note_send-requires
note_send-requires c =
    let trace = trace_there c.args.self.now.sim c.args.self.now.traces.items c.args.rank c.from-place.result c.index_mut.result.now
    c.requires.keeps c.requires.rank c.from-place.ensures c.index_mut.ensures.value in
    let wide = trace.width in
    let dest = c.requires.dest in
    omega (arith, wide, dest)

pub returns-clause-rows : goal.returns-clause-rows
returns-clause-rows c = λ yes.
    (let was = sym c.in_ok-was_allowed.ensures.ok ∙ c.if-not-branch.false in
    rows_sent c.args.self.now.sim c.act.new.self c.args.rank c.args.dest c.args.want c.requires.wanted c.requires.sends
    (on_ok c.act.result _ was c.act.ensures.ok))

pub returns-clause-spends : goal.returns-clause-spends
returns-clause-spends c = λ yes k.
    (let was = sym c.in_ok-was_allowed.ensures.ok ∙ c.if-not-branch.false in
    let few = c.in-Some.ensures.few in
    let next_clock = c.in-Some.ensures.some in
    let trace = trace_there c.args.self.now.sim c.args.self.now.traces.items c.args.rank c.from-place.result c.index.result.now c.requires.keeps c.requires.rank
    c.from-place.ensures c.index.ensures in
    let clock = trace.clock in
    spends_allowed c.args.self.now.sim c.act.new.self c.args.rank choice.Next c.args.want c.requires.wanted (send_apart c.args.dest c.args.want c.requires.sends)
    (on_ok c.act.result _ was c.act.ensures.ok) (omega (arith, few, next_clock, clock)) k)
