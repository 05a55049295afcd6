use Rattle.std.proofs.Common.{◌∙◌, ◌+◌, ◌≤◌, sym, ap, subst, arith}
use Rattle.limits.specs.Limits.{greatest_clock}
use Rattle.crash_free.specs.Runs.{history}
use Rattle.audit.specs.Audits.{Suits}
use Rattle.audit.proofs.Counting.{events_few}
use Rattle.audit.proofs.GoingAhead.{spends_allowed, event_added}
use Rattle.audit.proofs.Playing.{plays_event, suits_apart}
use Rattle.audit.proofs.Refusing.{no_clock, no_fitting_event, no_event_allowed, why_refused}
use Rattle.audit.proofs.Steps.{on_ok, repeated_one, trace_there}
use Rattle.audit.proofs.auditor.Auditor.choose.Goals as goal

pub note_event-requires : goal.note_event-requires
note_event-requires c =
    let trace = trace_there c.args.self.now.sim c.args.self.now.traces.items c.args.rank c.from-place.result c.index.result.now c.requires.keeps c.requires.rank
    c.from-place.ensures c.index.ensures in
    let noted = trace_there c.args.self.now.sim c.args.self.now.traces.items c.args.rank c.from-place.result c.index_mut.result.now c.requires.keeps
    c.requires.rank c.from-place.ensures c.index_mut.ensures.value in
    let few = events_few 0 (history c.args.self.now.sim.run c.args.rank) in
    let events = noted.events in
    let clock = trace.clock in
    let next = c.in-Some-next_clock.ensures.some in
    let most = c.in-Some-next_clock.ensures.few in
    omega (arith, few, events, clock, next, most)

pub returns-clause-goes : goal.returns-clause-goes
returns-clause-goes c =
    let was = sym c.in_ok-was_allowed.ensures.ok ∙ c.if-not-branch.false in
    let suits = subst (λ k. Suits c.args.want k) c.kind.ensures (c.suits.ensures.yes c.if-not-suits.false) in
    let next = sym c.receiver_clock.ensures.value ∙ c.if-receiver_clock-clock.false ∙ c.in-Some-next_clock.ensures.some in
    repeated_one c.args.self.now.sim c.act.new.self c.args.self.now.traces.items c.args.rank c.args.want c.in-Some.choice c.args.event c.from-place.result
    c.index_mut.result.now c.index.result.now c.note_event.new.self c.requires.keeps c.requires.rank c.from-place.ensures c.index.ensures
    c.index_mut.ensures.value c.requires.wanted suits c.in-Some.ensures.some c.receiver_clock.ensures.event (on_ok c.act.result _ was c.act.ensures.ok)
    c.act.ensures.ranks c.act.ensures.stands next c.note_event.ensures

pub returns-then-not-suits-clause-none : goal.returns-then-not-suits-clause-none
returns-then-not-suits-clause-none c = λ no of o next.
    no_fitting_event o c.args.self.now.sim c.args.rank c.args.want c.args.event c.requires.keeps.simulates c.requires.wanted of next
    (λ suits clock x repeats. c.suits.ensures.no c.if-not-suits.true (subst (λ k. Suits c.args.want k) (sym c.kind.ensures) suits))

pub returns-in_default-clause-none : goal.returns-in_default-clause-none
returns-in_default-clause-none c = λ no of o next.
    no_fitting_event o c.args.self.now.sim c.args.rank c.args.want c.args.event c.requires.keeps.simulates c.requires.wanted of next
    (λ suits clock x repeats. c.in_default.ensures.none x repeats)

pub returns-in_default-next_clock-clause-none : goal.returns-in_default-next_clock-clause-none
returns-in_default-next_clock-clause-none c = λ no of o next.
    let trace = trace_there c.args.self.now.sim c.args.self.now.traces.items c.args.rank c.from-place.result c.index.result.now c.requires.keeps c.requires.rank
    c.from-place.ensures c.index.ensures in
    no_clock o c.args.self.now.sim c.args.rank (subst (λ k. greatest_clock ≤ k) trace.clock c.in_default-next_clock.ensures.none)

pub returns-then-receiver_clock-clock-clause-none : goal.returns-then-receiver_clock-clock-clause-none
returns-then-receiver_clock-clock-clause-none c = λ no of o next.
    let trace = trace_there c.args.self.now.sim c.args.self.now.traces.items c.args.rank c.from-place.result c.index.result.now c.requires.keeps c.requires.rank
    c.from-place.ensures c.index.ensures in
    no_fitting_event o c.args.self.now.sim c.args.rank c.args.want c.args.event c.requires.keeps.simulates c.requires.wanted of next
    (λ suits clock x repeats. c.if-receiver_clock-clock.true
    (c.receiver_clock.ensures.value ∙ clock ∙ sym (ap (λ k. k + 1) trace.clock) ∙ sym c.in-Some-next_clock.ensures.some))

pub returns-then-not-branch-clause-none : goal.returns-then-not-branch-clause-none
returns-then-not-branch-clause-none c = λ no of o next.
    let was = sym c.in_ok-was_allowed.ensures.ok ∙ c.if-not-branch.true in
    let why = why_refused c.act.result _ _ was c.act.ensures.refused c.in_ok-was_allowed.ensures.refused in
    no_event_allowed o c.args.self.now.sim c.args.rank c.args.want c.args.event c.in-Some.choice why.0 c.requires.keeps.simulates c.requires.wanted of next
    c.in-Some.ensures.some why.1 why.2

pub returns-clause-made : goal.returns-clause-made
returns-clause-made c = λ yes o next k.
    let was = sym c.in_ok-was_allowed.ensures.ok ∙ c.if-not-branch.false in
    let suits = subst (λ k. Suits c.args.want k) c.kind.ensures (c.suits.ensures.yes c.if-not-suits.false) in
    let few = c.in-Some-next_clock.ensures.few in
    let next_clock = c.in-Some-next_clock.ensures.some in
    let trace = trace_there c.args.self.now.sim c.args.self.now.traces.items c.args.rank c.from-place.result c.index.result.now c.requires.keeps c.requires.rank
    c.from-place.ensures c.index.ensures in
    let clock = trace.clock in
    let named = sym c.receiver_clock.ensures.value ∙ c.if-receiver_clock-clock.false ∙ c.in-Some-next_clock.ensures.some ∙ ap (λ k. k + 1) trace.clock in
    plays_event c.args.self.now.sim c.act.new.self c.args.rank c.args.want c.in-Some.choice c.args.event c.requires.wanted suits c.in-Some.ensures.some
    c.receiver_clock.ensures.event named (on_ok c.act.result _ was c.act.ensures.ok) (omega (arith, few, next_clock, clock)) o next k

pub returns-clause-rows : goal.returns-clause-rows
returns-clause-rows c = λ yes.
    (let was = sym c.in_ok-was_allowed.ensures.ok ∙ c.if-not-branch.false in
    let suits = subst (λ k. Suits c.args.want k) c.kind.ensures (c.suits.ensures.yes c.if-not-suits.false) in
    let trace = trace_there c.args.self.now.sim c.args.self.now.traces.items c.args.rank c.from-place.result c.index.result.now c.requires.keeps c.requires.rank
    c.from-place.ensures c.index.ensures in
    let named = sym c.receiver_clock.ensures.value ∙ c.if-receiver_clock-clock.false ∙ c.in-Some-next_clock.ensures.some ∙ ap (λ k. k + 1) trace.clock in
    event_added c.args.self.now.sim c.act.new.self c.args.rank c.args.want c.in-Some.choice c.args.event c.requires.wanted suits c.in-Some.ensures.some
    c.receiver_clock.ensures.event named (on_ok c.act.result _ was c.act.ensures.ok))

pub returns-clause-spends : goal.returns-clause-spends
returns-clause-spends c = λ yes k.
    (let was = sym c.in_ok-was_allowed.ensures.ok ∙ c.if-not-branch.false in
    let suits = subst (λ k. Suits c.args.want k) c.kind.ensures (c.suits.ensures.yes c.if-not-suits.false) in
    let few = c.in-Some-next_clock.ensures.few in
    let next_clock = c.in-Some-next_clock.ensures.some in
    let trace = trace_there c.args.self.now.sim c.args.self.now.traces.items c.args.rank c.from-place.result c.index.result.now c.requires.keeps c.requires.rank
    c.from-place.ensures c.index.ensures in
    let clock = trace.clock in
    spends_allowed c.args.self.now.sim c.act.new.self c.args.rank c.in-Some.choice c.args.want c.requires.wanted (suits_apart c.args.want c.args.event.kind suits)
    (on_ok c.act.result _ was c.act.ensures.ok) (omega (arith, few, next_clock, clock)) k)
