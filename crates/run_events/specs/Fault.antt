-- The numbers by which it is named why a run gives no events.
use Rattle.std.specs.Prelude.{ℕ}
use Rattle.run_events.specs.declared.fault.PlayFault.{PlayFault}
use Rattle.run_events.specs.declared.fault.PlayFault.TheVariants as fault

-- the number of a fault, from 1 to 5
abbrev pub fault_number : PlayFault → ℕ
fault_number fault.NoOrder = 1
fault_number fault.TooManyEvents = 2
fault_number fault.RowLimit = 3
fault_number fault.Memory = 4
fault_number fault.ScriptUnmet = 5
