use Rattle.std.proofs.Common.{◌≡◌, take}
use Rattle.crash_free.proofs.sim.copying.copied.Given as goal

-- the copies so far
abbrev pub invariant-loop-machine : goal.invariant-loop-machine
invariant-loop-machine l = l.copies.items ≡ take l.machine-index l.machines
