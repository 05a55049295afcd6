use Rattle.std.proofs.Common.{take}
use Rattle.std.specs.List.{AllZip}
use Rattle.bare_world.specs.Copied.{IsSeatCopy}
use Rattle.bare_world.proofs.seats.copying.copied.Given as goal

-- a copy of each seat so far
abbrev pub invariant-loop-seat : goal.invariant-loop-seat
invariant-loop-seat l = AllZip IsSeatCopy (take l.seat-index l.seats) l.copies.items
