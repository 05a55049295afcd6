use Rattle.std.proofs.Common.{length, sym, ap, subst, ◌∙◌, drop}
use denote.Param.Send.{sendable}
use Rattle.std.specs.Prelude.{slice_index_or}
use Rattle.std.proofs.Crossing.{crosses}
use Rattle.crash_free.specs.Sim.{CollectivesAgree}
use Rattle.crash_free.specs.Stretches.{GoesAhead, GoAhead, GoFrom}
use Rattle.crash_free.proofs.Agreeing.{agrees}
use Rattle.crash_free.proofs.Sharing.{machine_send}
use Rattle.crash_free.proofs.Stretches.{go_from, written_back}
use Rattle.crash_free.proofs.sim.Sim.stride_all.Goals as goal

pub for_each_mut-requires-send-T : goal.for_each_mut-requires-send-T
for_each_mut-requires-send-T g c κs within = search (machine_send, crosses, sendable) depth 60 fits 20000

pub take_up_all-requires-clause-goes : goal.take_up_all-requires-clause-goes
take_up_all-requires-clause-goes g c =
    let value = c.deref_mut.ensures.value in
    let old = c.deref_mut.result.now in
    let new = c.for_each_mut.new.s in
    let went : GoAhead old new = λ i d low.
    (let at = (c.for_each_mut.ensures i d low).1 in
    subst (λ z. GoesAhead z (slice_index_or new i d)) at.argument_is (subst (λ z. GoesAhead at.argument.now z) at.left at.call)) in
    let ahead = subst (λ xs. GoAhead xs new) value went in
    let from = go_from c.args.self.now.machines c.args.left.now c.in_ok-stretches.stretches.items new (c.for_each_mut.auto.s ∙ ap length value)
    c.in_ok-stretches.ensures.before ahead in
    subst (GoFrom c.args.self.now.machines c.args.left.now)
    (sym (written_back c.in_ok-stretches.stretches.len new (drop (length new) c.in_ok-stretches.stretches.items)
    (c.for_each_mut.auto.s ∙ c.deref_mut.ensures.len))) from

pub returns-in_err-stretches-clause-collectives : goal.returns-in_err-stretches-clause-collectives
returns-in_err-stretches-clause-collectives g c = subst CollectivesAgree c.self.view_is (agrees _ c.self.invariant.0.simulates)

pub returns-clause-collectives : goal.returns-clause-collectives
returns-clause-collectives g c = subst CollectivesAgree c.self-2.view_is (agrees _ c.self-2.invariant.0.simulates)
