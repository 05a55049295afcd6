use Rattle.std.proofs.Common.{rules, subst, sym, ◌≡◌, ◌≤◌, ◌+◌, ◌++◌, ◌∷◌, [], length, take}
use Rattle.limits.specs.Limits.{most_ranks}
use Rattle.run_shown.specs.Trace.Clocks.{AreCounted}
use Rattle.run_shown.specs.Trace.Places.{IsMadeAt, ArePlaces}
use Rattle.run_shown.proofs.TraceLaws.PlacesLemmas.{next_made}
use Rattle.run_shown.proofs.trace.places.places_of.Goals as goal

pub loop-passed-preserved : goal.loop-passed-preserved
loop-passed-preserved c =
    let at : IsMadeAt c.loop-passed.sim c.passed-item.result c.in_ok-place.place c.made.new.sim = search rules in
    let items : c.push.new.self.items ≡ c.loop-passed.places.items ++ c.in_ok-place.place ∷ [] = search rules in
    let counted : AreCounted c.made.new.sim.run c.made.new.clocks = search rules in
    let few : length c.made.new.sim.machines ≤ most_ranks = search rules in
    record {
      made =
          subst (λ z. ArePlaces c.in_ok-sim.sim (take (c.loop-passed.passed-index + 1) c.args.acts.now) z c.made.new.sim) (sym items)
          (next_made c.in_ok-sim.sim c.loop-passed.sim c.made.new.sim c.args.acts.now c.loop-passed.passed-index c.passed-item.result _
          c.loop-passed.places.items c.in_ok-place.place (search rules) c.passed-item.is c.loop-passed.invariant.made at);
      counted = counted;
      few = few;
    }
