use Rattle.std.proofs.Common.{rules, subst, ◌≡◌, ◌<◌, ◌+◌, min, length, reverse, Some, slice_get, slice_index_or}
use Rattle.limits.specs.Limits.{most_ranks}
use Rattle.crash_free.specs.Sim.{choice_of, Allows}
use Rattle.crash_free.specs.Inside.{GoesInside}
use Rattle.crash_free.specs.Wanted.{WantsAt}
use Rattle.run_shown.specs.Trace.Places.{greatest_told}
use Rattle.run_shown.proofs.TraceLaws.ClockLemmas.{next_is, counts_on}
use Rattle.run_shown.proofs.TraceLaws.PlacesLemmas.{made_more_by, made_at}
use Rattle.run_shown.proofs.trace.places.made.Goals as goal

pub returns-clause-ok : goal.returns-clause-ok
returns-clause-ok c =
    let allowed : Allows c.stride.new.self c.args.passed.now.rank (choice_of c.args.passed.now.act) c.act.new.self = search rules in
    let seen : slice_get (reverse c.act.new.self.run) (length (reverse c.args.sim.now.run)) ≡ Some c.args.passed.now = search rules in
    let inside : GoesInside c.args.sim.now c.args.passed.now.rank c.stride.result c.stride.new.self = search rules in
    let made = made_more_by c.args.sim.now c.stride.new.self c.act.new.self _ _ c.args.passed.now inside.run allowed seen in
    let stands : slice_get c.stride.new.self.machines c.args.passed.now.rank ≡ Some c.machine.result.now = search rules in
    let wanted : WantsAt c.stride.new.self.machines c.args.passed.now.rank c.wants.result = search rules in
    let few : c.args.passed.now.rank < most_ranks = subst (λ z. z.rank < most_ranks) c.passed.view_is (search rules) in
    let value : c.next_clock-clock.result ≡ min (slice_index_or c.args.clocks.now c.args.passed.now.rank 0 + 1) greatest_told = search rules in
    let clock = next_is c.args.sim.now.run c.act.new.self.run c.args.clocks.now c.args.passed.now _ c.requires.counted few made value in
    made_at _ c.stride.new.self _ _ _ c.stride.result _ _ inside stands (search rules) wanted (search rules) allowed made clock

pub returns-clause-counted : goal.returns-clause-counted
returns-clause-counted c =
    let allowed : Allows c.stride.new.self c.args.passed.now.rank (choice_of c.args.passed.now.act) c.act.new.self = search rules in
    let seen : slice_get (reverse c.act.new.self.run) (length (reverse c.args.sim.now.run)) ≡ Some c.args.passed.now = search rules in
    let inside : GoesInside c.args.sim.now c.args.passed.now.rank c.stride.result c.stride.new.self = search rules in
    let made = made_more_by c.args.sim.now c.stride.new.self c.act.new.self _ _ c.args.passed.now inside.run allowed seen in
    let few : c.args.passed.now.rank < most_ranks = subst (λ z. z.rank < most_ranks) c.passed.view_is (search rules) in
    let value : c.next_clock-clock.result ≡ min (slice_index_or c.args.clocks.now c.args.passed.now.rank 0 + 1) greatest_told = search rules in
    let clock = next_is c.args.sim.now.run c.act.new.self.run c.args.clocks.now c.args.passed.now _ c.requires.counted few made value in
    counts_on c.args.sim.now.run c.act.new.self.run c.args.clocks.now _ c.args.passed.now _ c.requires.counted few (search rules) made clock (search rules)
