use Rattle.std.proofs.Common.{◌∙◌}
use Rattle.crash_free.proofs.Pointing.{is_point}
use Rattle.crash_free.proofs.sim.Sim.point.Goals as goal

pub returns-clause-point : goal.returns-clause-point
returns-clause-point c =
    is_point c.self.inside.passed.items _ _ _ _ c.self.view_is c.self.invariant.0 c.self.invariant.1
    (c.in_ok-copied.ensures ∙ c.deref.ensures.value) c.in_ok-copy.ensures c.in_ok-copy-2.ensures (c.len.ensures ∙ c.self.inside.passed.ok.0)
