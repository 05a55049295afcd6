-- The numbers and names of the faults of a script.
use Rattle.std.specs.Prelude.{ℕ, List, codes}
use Rattle.rank_text.specs.declared.script.fault.ScriptFaultKind.{ScriptFaultKind}
use Rattle.rank_text.specs.declared.script.fault.ScriptFaultKind.TheVariants.{BadLine, BadRank, Limit}

-- the faults are numbered from 1 in this order
abbrev pub fault_number : ScriptFaultKind → ℕ
fault_number BadLine = 1
fault_number BadRank = 2
fault_number Limit = 3

-- the fault's name
abbrev pub name_of : ScriptFaultKind → List ℕ
name_of BadLine = codes "BadLine"
name_of BadRank = codes "BadRank"
name_of Limit = codes "Limit"
