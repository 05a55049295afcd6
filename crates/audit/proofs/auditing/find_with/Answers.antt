use Rattle.std.proofs.Common.{◌≤◌, ◌∙◌, ap, subst}
use Rattle.crash_free.specs.Runs.{prints_from}
use Rattle.crash_free.specs.Sim.{start_of}
use Rattle.crash_free.proofs.Taking.{no_history}
use Rattle.audit.specs.Outcome.{OutcomeValue, lines_of}
use Rattle.audit.proofs.Confirming.{too_long}
use Rattle.audit.proofs.auditing.find_with.Goals as goal

pub returns-in_default-clause-err : goal.returns-in_default-clause-err
returns-in_default-clause-err g c = λ reach.
    let none = rw c.in_default.is at c.in_ok-lines.ensures.none in
    let lines = c.as_slice.ensures.value ∙ ap (λ (o : OutcomeValue). o.lines) c.outcome.view_is in
    let outcome = reach.1 in
    absurd (none.2 (ap (lines_of none.0) lines ∙ outcome.lines none.0
    ∙ ap (λ h. prints_from 0 h) (no_history (start_of c.args.ahead.program c.args.ahead.ranks) c.args.ahead.ranks reach.0 outcome.is_run none.0
    (subst (λ n. n ≤ none.0) c.ranks-ranks.ensures none.1))))

pub returns-in_default-2-clause-err : goal.returns-in_default-2-clause-err
returns-in_default-2-clause-err g c = λ reach.
    let many = rw c.in_default-2.is at c.in_ok-counts.ensures.none in
    absurd (too_long c.args.ahead.program c.args.ahead.ranks c.args.ahead.steps c.args.outcome.now many reach)
