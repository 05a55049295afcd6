use Rattle.std.proofs.Common.{◌≡◌, ◌≤◌, ℕ, true, length}
use Rattle.explore.specs.Counting.{GoesBeyond}
use Rattle.explore.specs.LastState.{Knows}
use Rattle.explore.specs.Searching.{IsOn}
use Rattle.explore.specs.Small.{EnoughForAll}
use Rattle.explore.specs.Stems.{stems_of}
use Rattle.explore.specs.Stops.{CanGoBack, KeepsStops}
use Rattle.explore.proofs.ongoing.Search.look_on.Given as goal

-- how far it has come, with fewer branches left
abbrev pub invariant-loop-branch : goal.invariant-loop-branch
invariant-loop-branch l = record {
  on : IsOn l.mode l.initial.self.path.sim.program (length l.initial.self.path.sim.machines) l.self.path.sim l.self.pending.items l.self.found l.self.met
      l.self.out_of_steps;
  enough : (k : ℕ) → EnoughForAll l.mode l.initial.self.path.sim.program (length l.initial.self.path.sim.machines) k
      (stems_of l.initial.self.path.sim.run l.initial.self.pending.items)
      → (i : ℕ) × EnoughForAll l.mode l.initial.self.path.sim.program (length l.initial.self.path.sim.machines) i (stems_of l.self.path.sim.run l.self.pending.items)
      × (i ≤ k);
  closes : l.self.met.closes ≡ l.initial.self.met.closes;
  knows : Knows l.tables.live l.initial.self.path.sim.program (length l.initial.self.path.sim.machines) l.self.path.sim.run l.self.met.parts l.self.last;
  back : KeepsStops l.initial.self.path.sim l.initial.self.path.left l.initial.self.stops l.self.path.sim l.self.path.left l.self.stops;
  beyond : (steps : ℕ) → CanGoBack steps l.initial.self.path.sim l.initial.self.path.left l.initial.self.stops
      → (l.initial.self.out_of_steps ≡ true → GoesBeyond l.mode l.initial.self.path.sim.program (length l.initial.self.path.sim.machines) steps)
      → l.self.out_of_steps ≡ true → GoesBeyond l.mode l.initial.self.path.sim.program (length l.initial.self.path.sim.machines) steps;
}

abbrev pub decreases-loop-branch : goal.decreases-loop-branch
decreases-loop-branch l = length l.self.pending.items
