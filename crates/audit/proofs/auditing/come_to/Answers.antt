use Rattle.std.proofs.Common.{length, sym, ap, subst, ◌∙◌}
use Rattle.audit.specs.Ahead.{ProgressValue}
use Rattle.audit.specs.Audits.{GoesTo}
use Rattle.audit.specs.Found.{IsFound}
use Rattle.audit.specs.Playing.{PlayAll}
use Rattle.audit.proofs.Confirming.{if_err, found, reaches}
use Rattle.audit.proofs.auditing.come_to.Goals as goal

pub returns-in_err-verdict-clause-err : goal.returns-in_err-verdict-clause-err
returns-in_err-verdict-clause-err g c = if_err c.from_residual-in_err-verdict.result _ (λ fault reach.
    let o = c.args.goal.now.outcome.now in
    let p = c.in_ok-auditor.field-0 in
    let left = c.deref_mut.ensures.value ∙ ap (λ (p : ProgressValue). p.left) c.auditor.view_is in
    let goes : GoesTo p.sim c.play.new.self.sim c.play.new.self.traces.items = rw (← c.auditor.view_is) c.in_ok-play.ensures.goes in
    let plays : PlayAll o p.left c.play.new.left p.sim c.play.new.self.sim = rw (← left, ← ap (λ (p : ProgressValue). p.sim) c.auditor.view_is) c.in_ok-play.ensures.plays in
    let size = goes.size ∙ c.in_ok-auditor.ensures.ahead.size in
    let width = c.play.auto.left ∙ ap length left in
    absurd (c.in_err-verdict.ensures.err (c.requires.rows ∙ sym size) (c.requires.ends ∙ sym size)
    (reaches o c.args.ahead p c.play.new.self.sim c.play.new.self.traces.items c.play.new.left c.in_ok-auditor.ensures.ahead c.in_ok-auditor.ensures.within
    goes plays width c.in_ok-play.ensures.stuck reach)))

pub returns-clause-ok : goal.returns-clause-ok
returns-clause-ok g c =
    let o = c.args.goal.now.outcome.now in
    let p = c.in_ok-auditor.field-0 in
    let left = c.deref_mut.ensures.value ∙ ap (λ (p : ProgressValue). p.left) c.auditor.view_is in
    let goes : GoesTo p.sim c.play.new.self.sim c.play.new.self.traces.items = rw (← c.auditor.view_is) c.in_ok-play.ensures.goes in
    let plays : PlayAll o p.left c.play.new.left p.sim c.play.new.self.sim = rw (← left, ← ap (λ (p : ProgressValue). p.sim) c.auditor.view_is) c.in_ok-play.ensures.plays in
    let width = c.play.auto.left ∙ ap length left in
    subst (λ s. IsFound c.args.ahead.program c.args.ahead.ranks o c.args.ahead.steps s) (sym c.into_run.ensures)
    (found o c.args.ahead p c.play.new.self.sim c.play.new.self.traces.items c.args.goal.now.lines.now c.play.new.left c.in_ok-auditor.ensures.ahead
    goes plays width c.requires.rows c.requires.ends c.requires.sorted c.in_ok-verdict.ensures.ok)
