use Rattle.std.proofs.Common.{sym, subst, ◌∙◌}
use Rattle.std.specs.Prelude.{IfSome}
use Rattle.audit.specs.Ahead.{AheadValue, IsAhead}
use Rattle.audit.proofs.ahead.Ahead.go_ahead.Goals as goal

pub invariant_of-self-in-Ok-2 : goal.invariant_of-self-in-Ok-2
invariant_of-self-in-Ok-2 c =
    let ahead : AheadValue = record { program = c.self.inside.program.now; ranks = c.self.inside.ranks; steps = c.self.inside.steps } in
    let before : IsAhead ahead c.in-Some.progress =
    subst (λ o. IfSome o (IsAhead ahead)) (sym c.take.ensures.value ∙ c.in-Some.is) c.self.invariant.ahead in
    record { some = c.self.invariant.some; few = c.self.invariant.few; ahead = c.in-Ok.ensures.ahead ahead before }
