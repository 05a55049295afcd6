use Rattle.std.proofs.Common.{◌≡◌, ◌++◌, length, ap, append-nil, arith, sym, ◌∙◌}
use Rattle.telling.specs.Lines.{repeated}
use Rattle.telling.proofs.Putting.{as_many}
use Rattle.telling.proofs.lined_forms.LinedForms.stand_on.Goals as goal

-- none is left
pub returns-clause-each : goal.returns-clause-each
returns-clause-each c =
    let over : c.loop-left.left ≡ 0 = omega (arith, c.loop-left-test.false) in
    let lines = c.loop-left.self.lines.items in
    as_many c.args.self.now.lines.items lines c.args.line (length c.args.self.now.forms.items) c.requires
    (sym (append-nil lines) ∙ ap (λ k. lines ++ repeated c.args.line k) (sym over) ∙ c.loop-left.invariant.lines)
    ∙ ap (λ v. length v.items) (sym c.loop-left.invariant.forms)
