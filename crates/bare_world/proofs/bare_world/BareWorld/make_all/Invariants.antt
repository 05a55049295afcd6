use Rattle.std.proofs.Common.{◌+◌}
use Rattle.bare_world.specs.World.{size}
use Rattle.crash_free.specs.Points.{first_acts}
use Rattle.bare_world.specs.Measures.{machine_of_newest}
use Rattle.bare_world.specs.Driven.{Advanced, IsCounted, Ready}
use Rattle.bare_world.proofs.bare_world.BareWorld.make_all.Given as goal

abbrev pub invariant-loop-index : goal.invariant-loop-index
invariant-loop-index l =
    Advanced l.fn.self l.fn.events.items l.self l.events.items × Ready l.self (first_acts l.index l.fn.self.run)
    × IsCounted (size l.fn.self) (first_acts l.index l.fn.self.run) l.counts.items

-- where the rank of the act stands
abbrev pub ghosts-make : goal.ghosts-make
ghosts-make a = record { machine = machine_of_newest a.self.now (first_acts (a.index + 1) a.self.now.run); place = a.index }
