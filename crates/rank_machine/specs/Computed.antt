-- What a computation answers: a value, or none, with the fault beside it.
use Rattle.std.specs.Prelude.{ℤ, Ok, Err, Option, Some, None}
use Rattle.rank_machine.specs.declared.fault.MachineFault.{MachineFault}
use Rattle.rank_machine.specs.Values.{Valued}

-- a value if there is one, else the fault
abbrev pub valued : Option ℤ → MachineFault → Valued ℤ
valued (Some z) k = Ok z
valued None k = Err k
