use Rattle.std.proofs.Common.{◌+◌, ◌++◌, ◌∷◌, [], ◌∙◌, take, sym, ap, arith}
use Rattle.limits.specs.Limits.{greatest_clock}
use Rattle.event_logger.specs.Sequential.Event.{count_of}
use Rattle.audit.specs.Counts.{ends_from}
use Rattle.audit.proofs.Counting.{counted_more, too_many}
use Rattle.audit.proofs.counts.ActCounts.of.Goals as goal

pub returns-then-count-total-clause-none : goal.returns-then-count-total-clause-none
returns-then-count-total-clause-none c =
    let total = c.loop-event.invariant.total in
    let few = c.loop-event.invariant.few in
    let more = c.if-count-total.true in
    too_many c.args.events.now c.loop-event.event-index c.count-count.result greatest_clock c.event-item.result c.loop-event-test.true
    (c.count-count.ensures.value ∙ ap count_of c.event-item.is) (omega (arith, total, few, more))

pub loop-event-preserved : goal.loop-event-preserved
loop-event-preserved c =
    let few = c.if-count-total.false in
    let before = c.loop-event.invariant.few in
    let more = counted_more c.args.events.now c.loop-event.event-index c.count-count.result c.event-item.result c.loop-event-test.true
    (c.count-count.ensures.value ∙ ap count_of c.event-item.is) in
    record {
      ends = c.in_ok-push.ensures.items ∙ ap (λ z. z ++ (c.loop-event.total + c.count-count.result) ∷ []) c.loop-event.invariant.ends
          ∙ ap (λ n. ends_from 0 (take c.loop-event.event-index c.args.events.now) ++ (n + c.count-count.result) ∷ []) c.loop-event.invariant.total
          ∙ sym more.0;
      total = ap (λ n. n + c.count-count.result) c.loop-event.invariant.total ∙ sym more.1;
      few = omega (arith, few, before);
    }
