use Rattle.std.proofs.Common.{◌+◌, ◌-◌, length}
use Rattle.bare_world.specs.Measures.{steps_of}
use Rattle.bare_world.specs.Driven.{Advanced, IsNear}
use Rattle.bare_world.proofs.bare_world.BareWorld.step_to.Given as goal

abbrev pub invariant-loop-step : goal.invariant-loop-step
invariant-loop-step g l =
    Advanced l.fn.self l.fn.events.items l.self l.events.items
    × IsNear l.fn.self.run g.K.Stand.place l.rank
    (length l.fn.events.items + 1 + steps_of l.fn.ahead.steps.0 g.K.Stand.machine - length l.events.items) l.self

-- so many steps are left at most: as many as when it began, less those that are on the list
abbrev pub decreases-loop-step : goal.decreases-loop-step
decreases-loop-step g l = length l.fn.events.items + 1 + steps_of l.fn.ahead.steps.0 g.K.Stand.machine - length l.events.items
