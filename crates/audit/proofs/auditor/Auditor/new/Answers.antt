use Rattle.std.proofs.Common.{replicate, ◌∙◌, ap, arith}
use Rattle.audit.specs.Trace.{empty_trace}
use Rattle.audit.proofs.Steps.{keeps_none}
use Rattle.audit.proofs.auditor.Auditor.new.Goals as goal

pub returns-clause-keeps : goal.returns-clause-keeps
returns-clause-keeps c =
    keeps_none c.in_ok-sim.sim c.args.ranks c.loop.traces.items c.in_ok-sim.ensures.stands c.in_ok-sim.ensures.run c.in_ok-sim.ensures.ranks
    (c.loop.invariant ∙ ap (λ k. replicate k (empty_trace c.args.ranks)) (omega (arith, c.loop-test.false, c.loop.auto.counter-end)))
