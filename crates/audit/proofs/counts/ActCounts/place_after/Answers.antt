use Rattle.std.proofs.Common.{◌≡◌, ◌<◌, ◌-◌, ◌∙◌, Ok, Err, length, get_or, sym, ap, subst}
use Rattle.std.proofs.lemmas.List.Sorted.{searched}
use Rattle.audit.specs.Counts.{ends_from}
use Rattle.audit.specs.Trace.{AreInOrder}
use Rattle.audit.proofs.Counting.{ends_rise, place_after, place_missed}
use Rattle.audit.proofs.counts.ActCounts.place_after.Goals as goal

pub returns-then-ends-last : goal.returns-then-ends-last
returns-then-ends-last c =
    let whole : c.as_slice-ends.result.now ≡ ends_from 0 c.args.events.now = c.as_slice-ends.ensures.value ∙ c.self.view_is ∙ c.requires in
    place_after c.args.events.now c.args.done (c.args.done - 1) (subst (λ xs. c.args.done - 1 < length xs) whole c.if-last-ends.true)
    (ap (λ xs. get_or xs (c.args.done - 1) 0) (sym whole) ∙ c.if-ends-last.true)

pub returns-in-Ok : goal.returns-in-Ok
returns-in-Ok c =
    let whole : c.as_slice-ends.result.now ≡ ends_from 0 c.args.events.now = c.as_slice-ends.ensures.value ∙ c.self.view_is ∙ c.requires in
    let found =
    searched c.as_slice-ends.result.now c.args.done (Ok c.in-Ok.last) c.in-Ok.ensures.position
    (subst AreInOrder (sym whole) (λ i j le low. ends_rise 0 c.args.events.now i j le low)) in
    place_after c.args.events.now c.args.done c.in-Ok.last (subst (λ xs. c.in-Ok.last < length xs) whole found.0)
    (ap (λ xs. get_or xs c.in-Ok.last 0) (sym whole) ∙ found.1)

pub returns-in-Err : goal.returns-in-Err
returns-in-Err c =
    let whole : c.as_slice-ends.result.now ≡ ends_from 0 c.args.events.now = c.as_slice-ends.ensures.value ∙ c.self.view_is ∙ c.requires in
    let found =
    searched c.as_slice-ends.result.now c.args.done (Err c.in-Err.next) c.in-Err.ensures.position
    (subst AreInOrder (sym whole) (λ i j le low. ends_rise 0 c.args.events.now i j le low)) in
    place_missed c.args.events.now c.args.done c.in-Err.next (λ h less. subst (λ xs. get_or xs h 0 < c.args.done) whole (found.1 h less))
    (λ h le low. subst (λ xs. c.args.done < get_or xs h 0) whole (found.2 h le (subst (λ xs. h < length xs) (sym whole) low)))
