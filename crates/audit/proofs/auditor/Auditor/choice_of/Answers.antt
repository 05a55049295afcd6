use Rattle.std.proofs.Common.{◌∙◌, sym, arith, length}
use Rattle.crash_free.specs.Sim.{start_of}
use Rattle.audit.proofs.Picking.{no_such_sender, unsent}
use Rattle.audit.proofs.Refusing.{if_none}
use Rattle.audit.proofs.Steps.{trace_there, repeats_take}
use Rattle.audit.proofs.auditor.Auditor.choice_of.Goals as goal

pub place_of-requires : goal.place_of-requires
place_of-requires c =
    let ranks = c.ranks.ensures.value in
    let low = c.if-source-ranks.false in
    let trace = trace_there c.args.self.now.sim c.args.self.now.traces.items c.sender-source.result c.from.result c.index-trace.result.now c.requires.keeps
    (omega (arith, ranks, low)) c.from.ensures c.index-trace.ensures in
    let wide = trace.width in
    omega (arith, wide, c.requires.rank)

pub returns-clause-some : goal.returns-clause-some
returns-clause-some c =
    let ranks = c.ranks.ensures.value in
    let low = c.if-source-ranks.false in
    let source = c.from-2.ensures in
    let test = c.if-eq.ensures in
    repeats_take c.args.self.now.sim c.args.self.now.traces.items c.args.rank c.from-2.result c.from.result c.index-trace.result.now c.args.event.now
    c.in_ok-index.index c.sender_clock.result c.requires.keeps c.requires.rank (omega (arith, ranks, low, source)) (c.from.ensures ∙ sym source)
    c.index-trace.ensures (source ∙ c.sender-source.ensures) c.sender_clock.ensures
    (λ q. (let is = c.kind.ensures ∙ q in let bad = rw is at test in absurd cc)) c.in_ok-index.ensures.some

pub returns-then-source-ranks-clause-none : goal.returns-then-source-ranks-clause-none
returns-then-source-ranks-clause-none c =
    let ranks = c.ranks.ensures.value in
    let low = c.if-source-ranks.true in
    let sender = c.sender-source.ensures in
    let test = c.if-eq.ensures in
    no_such_sender (start_of c.args.self.now.sim.program (length c.args.self.now.sim.machines)) (length c.args.self.now.sim.machines) c.args.self.now.sim.run
    c.args.rank c.args.event.now c.requires.keeps.simulates.is_run (omega (arith, ranks, low, sender))
    (λ q. (let is = c.kind.ensures ∙ q in let bad = rw is at test in absurd cc))

pub returns-in_err-index-clause-none : goal.returns-in_err-index-clause-none
returns-in_err-index-clause-none c =
    let ranks = c.ranks.ensures.value in
    let low = c.if-source-ranks.false in
    let test = c.if-eq.ensures in
    if_none c.from_residual.result _
    (unsent c.args.self.now.sim c.args.self.now.traces.items c.args.rank c.sender-source.result c.from.result c.index-trace.result.now c.args.event.now
    c.sender_clock.result c.requires.keeps c.requires.rank (omega (arith, ranks, low)) c.from.ensures c.index-trace.ensures c.sender-source.ensures
    c.sender_clock.ensures (λ q. (let is = c.kind.ensures ∙ q in let bad = rw is at test in absurd cc)) c.in_err-index.ensures.none)
