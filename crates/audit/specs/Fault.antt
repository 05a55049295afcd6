-- The numbers by which faults of audits are named.
use Rattle.std.specs.Prelude.{ℕ}
use Rattle.audit.specs.declared.fault.AuditFault.{AuditFault}
use Rattle.audit.specs.declared.fault.AuditFault.TheVariants as fault

-- the number of a fault of an audit, from 1 to 6
abbrev pub fault_number : AuditFault → ℕ
fault_number fault.RowLeft = 1
fault_number fault.NotEligible = 2
fault_number fault.Output = 3
fault_number fault.EndState = 4
fault_number fault.Budget = 5
fault_number fault.Memory = 6
