-- The numbers and names that outputs give the faults of a rank at work (docs/ERRORS.md, "Faults of
-- a rank").
use Rattle.std.specs.Prelude.{ℕ, List, codes, Option, Some, None}
use Rattle.rank_machine.specs.declared.fault.MachineFault.{MachineFault}
use Rattle.rank_machine.specs.declared.fault.MachineFault.TheVariants.{Overflow, ZeroDivide, Index, BadRank, BadTag, TooLong, CollectiveMismatch}

-- the number of a fault
abbrev pub fault_number : MachineFault → ℕ
fault_number Overflow = 1
fault_number ZeroDivide = 2
fault_number Index = 3
fault_number BadRank = 4
fault_number BadTag = 5
fault_number TooLong = 6
fault_number CollectiveMismatch = 7

-- the name of a fault
abbrev pub fault_name : MachineFault → List ℕ
fault_name Overflow = codes "Overflow"
fault_name ZeroDivide = codes "ZeroDivide"
fault_name Index = codes "Index"
fault_name BadRank = codes "BadRank"
fault_name BadTag = codes "BadTag"
fault_name TooLong = codes "TooLong"
fault_name CollectiveMismatch = codes "CollectiveMismatch"

-- an act can leave only two faults; the others are faults of an evaluation, which is no step
abbrev pub IsLeft : Option MachineFault → Type 0
IsLeft None = Unit {0}
IsLeft (Some Overflow) = ⊥
IsLeft (Some ZeroDivide) = ⊥
IsLeft (Some Index) = ⊥
IsLeft (Some BadRank) = ⊥
IsLeft (Some BadTag) = ⊥
IsLeft (Some TooLong) = Unit {0}
IsLeft (Some CollectiveMismatch) = Unit {0}
