use Rattle.std.proofs.Common.{length, ◌-◌, ◌≡◌}
use Rattle.std.specs.Prelude.{take}
use Rattle.crash_free.specs.Sim.{Simulates, AllowsAll}
use Rattle.crash_free.proofs.sim.Sim.run.Given as goal

-- the choices so far were allowed
abbrev pub invariant-loop-done : goal.invariant-loop-done
invariant-loop-done l =
    AllowsAll l.initial.self (take l.done l.choices) l.self × (length l.self.machines ≡ length l.initial.self.machines) × Simulates l.self

abbrev pub decreases-loop-done : goal.decreases-loop-done
decreases-loop-done l = length l.choices - l.done
