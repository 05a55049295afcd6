use Rattle.std.proofs.Common.{◌∙◌, ◌<◌, ap, subst, length, get_or}
use Rattle.audit.specs.Counts.{ends_from}
use Rattle.audit.specs.Outcome.{OutcomeValue}
use Rattle.audit.proofs.Counting.{counted_on}
use Rattle.audit.proofs.counts.count.Goals as goal

pub loop-row-preserved : goal.loop-row-preserved
loop-row-preserved c =
    let counts = rw c.in-Some.is at c.in_ok-counts.ensures.some in
    c.in_ok-push.ensures.items
    ∙ counted_on _ c.outcome.inside.rows.items c.args.outcome.now.rows c.loop-row.row-index c.row-item.result c.loop-row.all.items c.in-Some.counts
    (ap (λ (o : OutcomeValue). o.rows) c.outcome.view_is)
    (subst (λ xs. c.loop-row.row-index < length xs) c.as_slice-row-items.ensures.value c.loop-row-test.true)
    (c.row-item.is ∙ ap (λ xs. get_or xs c.loop-row.row-index c.row-item.result) c.as_slice-row-items.ensures.value)
    c.loop-row.invariant (counts ∙ ap (ends_from 0) c.as_slice.ensures.value)
