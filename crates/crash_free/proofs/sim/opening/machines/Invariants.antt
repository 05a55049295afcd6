use Rattle.std.proofs.Common.{◌≡◌, length}
use Rattle.crash_free.specs.Sim.{AreBegun}
use Rattle.crash_free.proofs.sim.opening.machines.Given as goal

-- a machine for each round
abbrev pub invariant-loop-rank : goal.invariant-loop-rank
invariant-loop-rank l = (length l.machines.items ≡ l.rank) × AreBegun l.fn.program l.fn.ranks l.machines.items
