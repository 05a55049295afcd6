use Rattle.std.proofs.Common.{◌∙◌, rules, length, slice_set, subst, sym, arith}
use Rattle.std.proofs.lemmas.Option.{slice_get_within}
use Rattle.crash_free.specs.Sim.{SimValue}
use Rattle.crash_free.proofs.Stretches.{TakenUp, last_there, taken_one, taken_all, taken_stops}
use Rattle.crash_free.proofs.sim.Sim.take_up_all.Goals as goal

pub bounds-left-place : goal.bounds-left-place
bounds-left-place c =
    let place = c.len-place.ensures ∙ c.pop.new.self.ok.0 in
    let there = last_there _ _ _ _ _ _ _ c.in-Some.stretch c.loop-stretch.invariant c.in-Some.ensures.items in
    let low = slice_get_within c.args.stretches.items (length c.pop.new.self.items) c.in-Some.stretch there in
    let many = c.requires.ranks in
    let wide = c.requires.width in
    let width = c.loop-stretch.invariant.width in
    omega (arith, place, low, many, wide, width)

pub offset_bounds-left-place : goal.offset_bounds-left-place
offset_bounds-left-place c = let inside = bounds-left-place c in search rules

pub loop-stretch-preserved : goal.loop-stretch-preserved
loop-stretch-preserved c =
    subst (λ (s : SimValue). TakenUp c.args.self.now c.args.left.now c.args.stretches.items c.pop.new.self.items s
    (slice_set c.loop-stretch.left c.len-place.result c.in-Some.stretch.left)) (sym c.take_up.ensures)
    (taken_one c.args.self.now c.loop-stretch.self c.args.left.now c.loop-stretch.left c.args.stretches.items c.loop-stretch.stretches.items
    c.pop.new.self.items c.in-Some.stretch c.len-place.result c.loop-stretch.invariant c.in-Some.ensures.items c.requires.ranks c.requires.width
    (c.len-place.ensures ∙ c.pop.new.self.ok.0))

pub returns-clause-inside : goal.returns-clause-inside
returns-clause-inside c =
    taken_all c.args.self.now c.loop-stretch.self c.args.left.now c.loop-stretch.left c.args.stretches.items c.loop-stretch.stretches.items
    c.loop-stretch.invariant (sym c.loop-stretch.stretches.ok.0 ∙ c.in_default.ensures.cases.0) c.requires.ranks c.requires.width c.requires.goes

pub returns-clause-stops : goal.returns-clause-stops
returns-clause-stops c =
    taken_stops c.args.self.now c.loop-stretch.self c.args.left.now c.loop-stretch.left c.args.stretches.items c.loop-stretch.stretches.items
    c.loop-stretch.invariant (sym c.loop-stretch.stretches.ok.0 ∙ c.in_default.ensures.cases.0) c.requires.ranks c.requires.width c.requires.goes
