-- The numbers and names of the faults of a text of events.
use Rattle.std.specs.Prelude.{ℕ, List, codes}
use Rattle.world_model.specs.declared.events_text.fault.EventsFaultKind.{EventsFaultKind}
use Rattle.world_model.specs.declared.events_text.fault.EventsFaultKind.TheVariants.{BadLine, Limit}

-- the faults are numbered from 1 in this order
abbrev pub fault_number : EventsFaultKind → ℕ
fault_number BadLine = 1
fault_number Limit = 2

-- the fault's name
abbrev pub name_of : EventsFaultKind → List ℕ
name_of BadLine = codes "BadLine"
name_of Limit = codes "Limit"
