use Rattle.std.proofs.Common.{◌∙◌, length, sym, ap, arith}
use Rattle.audit.proofs.Counting.{ends_length, none_at, found_read}
use Rattle.audit.proofs.counts.ActCounts.event_after.Goals as goal

pub returns-then-place-events : goal.returns-then-place-events
returns-then-place-events c = sym (none_at c.args.events.now c.args.done c.place_after-place.result c.place_after-place.ensures c.if-place-events.true)

pub index-requires : goal.index-requires
index-requires c =
    let long = ends_length 0 c.args.events.now in
    let same = ap length (c.self.view_is ∙ c.requires) in
    omega (arith, c.if-place-events.false, same, long, c.self.inside.ends.ok.0)

pub overflow_sub-index : goal.overflow_sub-index
overflow_sub-index c =
    let here = found_read c.args.events.now c.self.inside.ends.items c.args.done c.place_after-place.result c.index.result.now c.count.result
    c.index-events-place.result (c.self.view_is ∙ c.requires) c.place_after-place.ensures c.if-place-events.false c.index-events-place.is c.index.ensures
    c.count.ensures.value c.count.ensures.low in
    let within = here.within in
    omega (arith, within)

pub overflow_sub-index-2 : goal.overflow_sub-index-2
overflow_sub-index-2 c =
    let here = found_read c.args.events.now c.self.inside.ends.items c.args.done c.place_after-place.result c.index.result.now c.count.result
    c.index-events-place.result (c.self.view_is ∙ c.requires) c.place_after-place.ensures c.if-place-events.false c.index-events-place.is c.index.ensures
    c.count.ensures.value c.count.ensures.low in
    let within = here.within in
    omega (arith, within)

pub part-requires-clause-later : goal.part-requires-clause-later
part-requires-clause-later c =
    (found_read c.args.events.now c.self.inside.ends.items c.args.done c.place_after-place.result c.index.result.now c.count.result
    c.index-events-place.result (c.self.view_is ∙ c.requires) c.place_after-place.ensures c.if-place-events.false c.index-events-place.is c.index.ensures
    c.count.ensures.value c.count.ensures.low).later

pub returns : goal.returns
returns c =
    c.part.ensures ∙ (found_read c.args.events.now c.self.inside.ends.items c.args.done c.place_after-place.result c.index.result.now c.count.result
    c.index-events-place.result (c.self.view_is ∙ c.requires) c.place_after-place.ensures c.if-place-events.false c.index-events-place.is c.index.ensures
    c.count.ensures.value c.count.ensures.low).there
