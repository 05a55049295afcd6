-- The numbers and names of the faults of an outcome text.
use Rattle.std.specs.Prelude.{ℕ, List, codes}
use Rattle.outcomes.specs.declared.text.fault.OutcomeFaultKind.{OutcomeFaultKind}
use Rattle.outcomes.specs.declared.text.fault.OutcomeFaultKind.TheVariants.{BadLine, BadRank, AfterEnd, NotRising, NoEnd, Limit}

-- the faults are numbered from 1 in this order
abbrev pub fault_number : OutcomeFaultKind → ℕ
fault_number BadLine = 1
fault_number BadRank = 2
fault_number AfterEnd = 3
fault_number NotRising = 4
fault_number NoEnd = 5
fault_number Limit = 6

-- the fault's name
abbrev pub name_of : OutcomeFaultKind → List ℕ
name_of BadLine = codes "BadLine"
name_of BadRank = codes "BadRank"
name_of AfterEnd = codes "AfterEnd"
name_of NotRising = codes "NotRising"
name_of NoEnd = codes "NoEnd"
name_of Limit = codes "Limit"
